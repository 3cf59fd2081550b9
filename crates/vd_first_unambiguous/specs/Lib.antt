pub mod OneDerivation
