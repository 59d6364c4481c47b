-- What `--version` prints of builds with a name and without.
use Rattle.std.specs.Prelude.{◌≡◌, codes}
use Rattle.tidewise.specs.Info.{version_text}

pub record VersionRows : Type 0 where
  pub of_the_repository : version_text (codes "1.0.0") (codes "") ≡ codes "tidewise 1.0.0\n"
  pub unproved : version_text (codes "1.0.0") (codes "unproved 36e16218") ≡ codes "tidewise 1.0.0 unproved 36e16218\n"
  pub proved : version_text (codes "1.0.0") (codes "proved 36e16218") ≡ codes "tidewise 1.0.0 proved 36e16218\n"
