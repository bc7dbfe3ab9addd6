pub mod ShortenLaws
