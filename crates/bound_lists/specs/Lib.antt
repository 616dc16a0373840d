pub mod DropWide
