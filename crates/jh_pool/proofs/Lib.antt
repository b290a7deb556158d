mod CountLemmas
mod ListLemmas
mod OpenLemmas
mod EditLemmas
