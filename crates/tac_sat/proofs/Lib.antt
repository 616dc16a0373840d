mod Rows
mod Below
