mod ListLemmas
mod NameLemmas
mod SettingLemmas
mod TallyLemmas
mod Refusals
mod OptionLemmas
