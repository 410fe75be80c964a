pub mod CasesAt
pub mod CasesLaws
pub mod ForcedLaws
pub mod ForcedNull
pub mod SharedSets
pub mod SoundLists
pub mod SoundTests
