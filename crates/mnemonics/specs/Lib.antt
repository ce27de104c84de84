pub mod Texts
pub mod Mnemonics
pub mod Kinds
pub mod NoTwoAlike
