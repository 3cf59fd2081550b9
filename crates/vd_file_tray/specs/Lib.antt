pub mod FileTray
