-- A cache that comes back for a bundle: whether the bundle still stands, and what the receipt tells.
use Rattle.std.specs.Prelude.{ℕ, nat_eq, if◌then◌else◌, List, length, slice_get, Option, Some, None}
use Rattle.std.specs.Arc.{arc_value}
use Rattle.sender_core.specs.declared.task.Task.{Task}
use Rattle.sender_core.specs.declared.receipt.Now.{Now}
use Rattle.sender_core.specs.declared.receipt.Now.TheVariants as now
use Rattle.sender_core.specs.Kept.{Kept, Job, kept_row}

-- the bundle that a task shows
abbrev pub job_of : Task → Job
job_of t = record { row = t.row; index = t.index; stamp = t.stamp; bins = arc_value t.bundle }

-- a receipt: the job, the number of entries at the try, and what stood there in place of the job's bundle, if something else did
pub record Tried : Type 0 where
  pub row : ℕ
  pub index : ℕ
  pub stamp : ℕ
  pub at : ℕ
  pub instead : Option Now

module _ {C : Type 0} where
  -- in place of a bundle with this stamp: nothing else where it stands, another stamp, or a row of so many bundles
  abbrev pub instead_of : (stamp len : ℕ) → Option (Kept C) → Option Now
  instead_of stamp len None = Some (now.Gone len)
  instead_of stamp len (Some k) = if nat_eq k.stamp stamp then None else Some (now.Stamp k.stamp)

  -- what a book's rows have in place of a job's bundle
  abbrev pub now_at : List (List (Kept C)) → Job → Option Now
  now_at rows t = instead_of t.stamp (length (kept_row rows t.row)) (slice_get (kept_row rows t.row) t.index)
