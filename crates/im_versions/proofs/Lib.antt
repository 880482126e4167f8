pub mod ListLemmas
pub mod RoomLemmas
pub mod ScanLemmas
pub mod VersionLemmas
