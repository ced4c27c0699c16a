-- A book of which nothing but caches changed.
use Rattle.std.specs.Prelude.{◌≡◌}
use Rattle.bundle_cache.specs.Caches.{CacheOf}
use Rattle.sender_core.specs.Kept.{Contents, version_of}

-- the same parameters, start, entries and set
pub record HasOtherCaches (old new : Contents CacheOf) : Type 0 where
  pub parameters : new.parameters ≡ old.parameters
  pub start : new.start ≡ old.start
  pub journal : new.journal ≡ old.journal
  pub version : version_of new ≡ version_of old
