pub mod SaysLemmas
pub mod TextLemmas
pub mod LineSome
