pub mod EveryList
pub mod EveryListOfCalls
