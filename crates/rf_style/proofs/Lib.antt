mod Tables
pub mod Said
