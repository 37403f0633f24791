mod OfCuts
mod OfModules
mod OfOperations
