pub mod CommandLines
pub mod Words
pub mod Replies
pub mod Laws
