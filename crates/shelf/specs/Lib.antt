pub mod Answer
pub mod Answering
pub mod OneAnswer
