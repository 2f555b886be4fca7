pub mod PartyLines
