mod StreamLaws
mod Reading
