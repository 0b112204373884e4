pub mod Logs
pub mod LogTexts
pub mod Laws
