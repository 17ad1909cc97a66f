pub mod Roles
pub mod Reordering
pub mod CallReordering
