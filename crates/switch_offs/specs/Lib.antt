pub mod EveryListOfCalls
