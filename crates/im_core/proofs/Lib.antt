mod UpLemmas
mod PlaceLemmas
mod ReadLemmas
mod CallLemmas
mod StageLemmas
mod BatchLemmas
mod OpenLemmas
mod RunLemmas
