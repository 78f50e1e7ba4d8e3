mod Below
mod Numbered
