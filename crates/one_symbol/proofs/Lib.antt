pub mod CodeTaken
