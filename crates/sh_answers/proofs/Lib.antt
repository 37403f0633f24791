mod FilesEnd
mod FilesStand
mod Irrefutable
mod ModulesJudged
mod TextsAnswered
mod TextsLexed
mod TokensJudged
mod WordsAnswered
