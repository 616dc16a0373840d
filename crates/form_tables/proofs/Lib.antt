pub mod FormRows
