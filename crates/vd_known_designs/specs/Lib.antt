pub mod Tables
pub mod Slots
pub mod Contents
pub mod Known
pub mod Denoted
pub mod Shapes
pub mod Designs
pub mod Marks
