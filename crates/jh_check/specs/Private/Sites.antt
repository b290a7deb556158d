-- A region where the program finds it.
use Rattle.jh_check.specs.declared.pairs.Site.{Site}
use Rattle.jh_check.specs.Regions.{Spot}

-- the region of the site with its cell, and the numbers of both
abbrev pub spot_of : Site → Spot
spot_of site = record { cell = site.cell; config = site.config.now; item = site.item; region = site.region.now }
