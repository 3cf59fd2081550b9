pub mod Begun
pub mod Calls
pub mod Folder
pub mod MemoryTray
pub mod Outs
pub mod SureTray
pub mod Trays
