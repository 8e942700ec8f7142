pub mod NamesLaws
