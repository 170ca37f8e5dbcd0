-- C calls of tags as Rattle reads their promises make the starts, updates, closings and one-shots that Theorems.antt is about; those of a guard
-- make the logs that guard's own theorems are about; those of frames tell what frame_laws is about.
use mathlib.Core.List.{List, ◌∷◌}
use mathlib.Core.Path.{◌≡◌}
use Rattle.capi_arrays.specs.Arrays.{stored_in}
use Rattle.capi.specs.Frames.{read_array}
use Rattle.capi.specs.Tags.{closing_array, tag_array, two_closing, two_once}
use Rattle.frame.specs.Outcome.{read_outcome, write_outcome}
use Rattle.guard.specs.Outcome.{table_of}
use Rattle.guard.specs.Runs.{Accept, Call, Calls, Rekey, accept, rekey}
use Rattle.mac.specs.Calls.{finish_outcome-128, finish_outcome-256, once_outcome-128, once_outcome-256, once_outcome-EIA3, start_outcome-128, start_outcome-256, start_outcome-EIA3, update_outcome}
use Rattle.standard.proofs.Promise.{Says}
use Rattle.standard.specs.Guard.{Link}
use Rattle.standard.specs.States.{formed, formed-128, tag_formed}
use Rattle.capi.proofs.Tight.{guard-accept-post, guard-rekey-post}
use Rattle.capi.proofs.frames.zuc_frame_read.Reads as zuc-frame-read
use Rattle.capi.proofs.frames.zuc_frame_write.Reads as zuc-frame-write
use Rattle.capi.proofs.tags.zuc128_tag_start.Reads as zuc128-tag-start
use Rattle.capi.proofs.tags.eia3_tag_start.Reads as eia3-tag-start
use Rattle.capi.proofs.tags.zuc256_tag_start.Reads as zuc256-tag-start
use Rattle.capi.proofs.tags.zuc128_tag_update.Reads as zuc128-tag-update
use Rattle.capi.proofs.tags.zuc256_tag_update.Reads as zuc256-tag-update
use Rattle.capi.proofs.tags.zuc128_tag_finish.Reads as zuc128-tag-finish
use Rattle.capi.proofs.tags.zuc256_tag_finish.Reads as zuc256-tag-finish
use Rattle.capi.proofs.tags.zuc128_tag.Reads as zuc128-tag
use Rattle.capi.proofs.tags.eia3_tag.Reads as eia3-tag
use Rattle.capi.proofs.tags.zuc256_tag.Reads as zuc256-tag

pub called-zuc128-tag-start : Says zuc128-tag-start.Post
    (λ κs a r s. record { number = r; array = s.0.now } ≡ tag_array (start_outcome-128 a.1.0.now a.1.1.0.now))
called-zuc128-tag-start κs a r s p = p

pub called-eia3-tag-start : Says eia3-tag-start.Post
    (λ κs a r s. record { number = r; array = s.0.now } ≡ tag_array (start_outcome-EIA3 a.1.0 a.1.1.0 a.1.1.1.0 a.1.1.1.1.0.now))
called-eia3-tag-start κs a r s p = p

pub called-zuc256-tag-start : Says zuc256-tag-start.Post
    (λ κs a r s. record { number = r; array = s.0.now } ≡ tag_array (start_outcome-256 a.1.0 a.1.1.0.now a.1.1.1.0.now))
called-zuc256-tag-start κs a r s p = p

pub called-zuc128-tag-update : Says zuc128-tag-update.Post
    (λ κs a r s. record { number = r; array = s.0.now } ≡ tag_array (update_outcome (tag_formed formed-128 (stored_in a.0.now)) (stored_in a.0.now) a.1.0.now))
called-zuc128-tag-update κs a r s p = p

pub called-zuc256-tag-update : Says zuc256-tag-update.Post
    (λ κs a r s. record { number = r; array = s.0.now } ≡ tag_array (update_outcome (tag_formed formed (stored_in a.0.now)) (stored_in a.0.now) a.1.0.now))
called-zuc256-tag-update κs a r s p = p

pub called-zuc128-tag-finish : Says zuc128-tag-finish.Post
    (λ κs a r s. record { number = r; tag = s.1.1.1.0.now; array = s.0.now } ≡ closing_array (two_closing (finish_outcome-128 (stored_in a.0.now) a.1.0.now a.1.1.0)))
called-zuc128-tag-finish κs a r s p = p

pub called-zuc256-tag-finish : Says zuc256-tag-finish.Post
    (λ κs a r s. record { number = r; tag = s.1.1.1.0.now; array = s.0.now } ≡ closing_array (finish_outcome-256 (stored_in a.0.now) a.1.0.now a.1.1.0))
called-zuc256-tag-finish κs a r s p = p

pub called-zuc128-tag : Says zuc128-tag.Post
    (λ κs a r s. record { number = r; tag = s.1.1.1.1.0.now } ≡ two_once (once_outcome-128 a.0.now a.1.0.now a.1.1.0.now a.1.1.1.0))
called-zuc128-tag κs a r s p = p

pub called-eia3-tag : Says eia3-tag.Post
    (λ κs a r s. record { number = r; tag = s.1.1.1.1.1.1.0.now } ≡ two_once (once_outcome-EIA3 a.0 a.1.0 a.1.1.0 a.1.1.1.0.now a.1.1.1.1.0.now a.1.1.1.1.1.0))
called-eia3-tag κs a r s p = p

pub called-zuc256-tag : Says zuc256-tag.Post
    (λ κs a r s. record { number = r; tag = s.1.1.1.1.1.0.now } ≡ once_outcome-256 a.0 a.1.0.now a.1.1.0.now a.1.1.1.0.now a.1.1.1.1.0)
called-zuc256-tag κs a r s p = p

pub called-zuc-frame-write : Says zuc-frame-write.Post
    (λ κs a r s. record { number = r; frame = s.1.1.1.1.1.1.0.now } ≡ write_outcome a.0.now a.1.0.now (record { COUNT = a.1.1.0; bearer = a.1.1.1.0; direction = a.1.1.1.1.0; L = a.1.1.1.1.1.0 }) a.1.1.1.1.1.1.0.now)
called-zuc-frame-write κs a r s p = p

pub called-zuc-frame-read : Says zuc-frame-read.Post
    (λ κs a r s. record { number = r; fields = s.1.1.1.0.now; frame = s.1.1.0.now } ≡ read_array (read_outcome a.0.now a.1.0.now a.1.1.0.now))
called-zuc-frame-read κs a r s p = p

-- a guard's calls before, and one more
module _ {table : List Link} {log : List Call} where
  pub called-zuc-guard-accept : Says guard-accept-post
      (λ κs a r s. Calls table log (table_of a.0.now) → Calls table (Accept a.1.0 a.1.1.0 r ∷ log) (table_of s.0.now))
  called-zuc-guard-accept κs a r s p run = accept a.1.0 a.1.1.0 (record { number = r; table = table_of s.0.now }) p run

  pub called-zuc-guard-rekey : Says guard-rekey-post
      (λ κs a r s. Calls table log (table_of a.0.now) → Calls table (Rekey a.1.0 r ∷ log) (table_of s.0.now))
  called-zuc-guard-rekey κs a r s p run = rekey a.1.0 (record { number = r; table = table_of s.0.now }) p run
