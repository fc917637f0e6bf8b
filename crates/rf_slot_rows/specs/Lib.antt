pub mod Puts
pub mod Bodies
pub mod Nodes
pub mod Growth
pub mod Leads
