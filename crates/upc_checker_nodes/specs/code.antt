pub mod ViewJudged
