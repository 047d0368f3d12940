pub mod Phases
pub mod Tally
pub mod Accounts
pub mod Replies
pub mod Histories
pub mod Openings
pub mod Requests
pub mod Reconciliations
