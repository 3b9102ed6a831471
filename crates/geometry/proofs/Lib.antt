pub mod Numbers
pub mod Meeting
pub mod Slack
pub mod Covering
