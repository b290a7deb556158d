-- The high row is spelled first, and the low one below it.
use Rattle.std.proofs.Common.{[], refl, arith}
use Rattle.jh_num.proofs.Public.{zero_fits}
use Rattle.jh_history.specs.Places.{places_of_row}
use Rattle.jh_history.proofs.ValueLemmas.{fits_alone, fits_below, fits_in_places, value_of_rows}
use Rattle.jh_history.proofs.bytes.value_of.Goals as goal

pub value_of_row-above-requires-clause-fits : goal.value_of_row-above-requires-clause-fits
value_of_row-above-requires-clause-fits g c = zero_fits _

pub value_of_row-requires-clause-fits : goal.value_of_row-requires-clause-fits
value_of_row-requires-clause-fits g c = fits_below c.value_of_row-above.result c.rows.result.0.count c.rows.result.1.count c.rows.ensures.few (c.value_of_row-above.ensures.fits 0 (zero_fits 0) (omega (arith, c.rows.ensures.few)))

pub returns-clause-fits : goal.returns-clause-fits
returns-clause-fits g c =
    fits_in_places c.value_of_row.result c.rows.result.0 c.rows.result.1 c.args.places.now c.rows.ensures.places
    (c.value_of_row.ensures.fits c.rows.result.1.count (fits_alone c.value_of_row-above.result c.rows.result.1.count (c.value_of_row-above.ensures.fits 0 (zero_fits 0) (omega (arith, c.rows.ensures.few)))) (omega (arith, c.rows.ensures.few)))

pub returns-clause-value : goal.returns-clause-value
returns-clause-value g c =
    value_of_rows (g.B.Bytes.byte_of c.args.bytes.now) c.args.places.now (places_of_row c.rows.result.0) (places_of_row c.rows.result.1) c.value_of_row-above.result c.value_of_row.result c.rows.ensures.places (c.value_of_row-above.ensures.spells [] refl) c.value_of_row.ensures.spells
