pub mod Catalogue
pub mod RuleLines
pub mod Kinds
pub mod View
pub mod Lending
pub mod Frames
