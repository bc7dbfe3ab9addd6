pub mod ShortenedLaws
