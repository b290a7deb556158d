mod LentLemmas
