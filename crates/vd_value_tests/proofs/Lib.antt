pub mod BusDesign
pub mod PairDesign
