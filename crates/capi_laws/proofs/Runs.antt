-- A run of C calls over arrays is a run of inner calls over states, and the other way, with the same tag; by induction on the updates.
use mathlib.Core.Bool.{Bool}
use mathlib.Core.List.{List, [], ◌∷◌, ◌++◌}
use mathlib.Core.Logic.{◌↔◌}
use mathlib.Core.Path.{◌≡◌, refl, sym, ap, ◌∙◌, subst}
use Prim.Native.Nat.{ℕ, zero, suc, ◌+◌, ◌*◌, ◌^◌, ◌<◌}
use lib.Dec.{lit<}
use lib.ListN.{length}
use lib.Seq.{get_or-append-add}
use Rattle.capi_arrays.proofs.Fitting.{Small, packed-array, small-updated}
use Rattle.capi_arrays.specs.Arrays.{stored_in, tag_array_of}
use Rattle.capi.specs.Runs.{ArrayAccepts, ArrayTagged, ArrayUpdates}
use Rattle.capi.specs.Runs as array
use Rattle.capi.specs.Tags.{ClosingArray, TagArray, closing_array, tag_array}
use Rattle.mac_laws.proofs.Runs.{update-is, updates-are}
use Rattle.mac.specs.Calls.{Closing, Outcome, update_outcome}
use Rattle.mac.specs.Runs.{Accepts, Tagged, Updates, more, none}
use Rattle.mac_registers.proofs.Packed.{good-updated}
use Rattle.mac_registers.specs.Inner.{Good}
use Rattle.mac_registers.specs.Stored.{packed}
use Rattle.mac_registers.specs.Tagging.{Tagging, updated}
use Rattle.standard.specs.Notation.{joined}
use Rattle.standard.specs.States.{Counted, Stored, tag_formed}
use Rattle.zuc_loading.proofs.Loaded.{Bytes}

-- parts of bytes
bytes_left : (a b : List ℕ) → Bytes (a ++ b) → Bytes a
bytes_left [] b h i = lit< tt
bytes_left (x ∷ a) b h zero = h 0
bytes_left (x ∷ a) b h (suc i) = bytes_left a b (λ j. h (suc j)) i

bytes-right : (a b : List ℕ) → Bytes (a ++ b) → Bytes b
bytes-right a b h i = subst (λ (x : ℕ). x < 2 ^ 8) (get_or-append-add a b i 0) (h (length a + i))

joined_bytes : {message : List ℕ} (parts : List (List ℕ)) (tail : List ℕ) → message ≡ joined parts ++ tail → Bytes message → Bytes (joined parts)
joined_bytes parts tail e b = bytes_left (joined parts) tail (subst Bytes e b)

-- a state that an array holds: good, small, and packed
pub record Holds (w : ℕ) (s : Counted Stored) : Type 0 where
  pub st : Tagging
  pub good : Good w st
  pub small : Small st
  pub packs : s.held ≡ packed w st

module _ {w : ℕ} {s : Counted Stored} (h : Holds w s) where
  read : stored_in (tag_array_of s) ≡ s
  read = packed-array h.good h.small h.packs

  -- after bytes: of one update, and of many
  held_after : (m : List ℕ) → Bytes m → {s' : Counted Stored} → s'.held ≡ packed w (updated (w * 8) h.st m) → Holds w s'
  held_after m b e = record { st = updated (w * 8) h.st m; good = good-updated m h.good; small = small-updated (w * 8) m b h.small; packs = e }

  held_update : (ok : Bool) (m : List ℕ) → Bytes m → (o : Outcome) → o ≡ update_outcome ok s m → o.number ≡ 0 → Holds w o.state
  held_update ok m b o told fine = held_after m b (update-is ok h.good.a-width s m o told fine h.st h.packs)

  held-updates : {test : Stored → Bool} {s' : Counted Stored} {parts : List (List ℕ)} → Updates test s parts s' → Bytes (joined parts) → Holds w s'
  held-updates {parts = parts} u b = held_after (joined parts) b (updates-are h.good.a-width u h.st h.packs)

-- updates over arrays and updates of states
inner-updates : {test : Stored → Bool} {w : ℕ} {a a' : List ℕ} {parts : List (List ℕ)} → ArrayUpdates test a parts a' → Bytes (joined parts)
    → Holds w (stored_in a) → Updates test (stored_in a) parts (stored_in a')
unfolding joined
inner-updates array.none b h = none
inner-updates {test} {w} {a} {a'} (array.more {part = part} {parts = parts} o told ok rest) b h =
    more i refl fine (subst (λ (x : Counted Stored). Updates test x parts (stored_in a')) back (inner-updates rest (bytes-right part (joined parts) b) (subst (Holds w) (sym back) held)))
  where
    i : Outcome
    i = update_outcome (tag_formed test (stored_in a)) (stored_in a) part

    fine : i.number ≡ 0
    fine = ap (λ (x : TagArray). x.number) (sym told) ∙ ok

    held : Holds w i.state
    held = held_update h (tag_formed test (stored_in a)) part (bytes_left part (joined parts) b) i refl fine

    back : stored_in o.array ≡ i.state
    back = ap (λ (x : TagArray). stored_in x.array) told ∙ read held

-- from a start whose accepted state an array holds
pub updates-inside : {test : Stored → Bool} {w : ℕ} (begun : Outcome) → (begun.number ≡ 0 → Holds w begun.state) → (start : TagArray) → start ≡ tag_array begun
    → start.number ≡ 0 → {parts : List (List ℕ)} {last : List ℕ} → ArrayUpdates test start.array parts last → Bytes (joined parts)
    → Updates test begun.state parts (stored_in last)
updates-inside {test} {w} begun held start told ok {parts} {last} run b =
    let h : Holds w begun.state = held (ap (λ (x : TagArray). x.number) (sym told) ∙ ok) in
    let back : stored_in start.array ≡ begun.state = ap (λ (x : TagArray). stored_in x.array) told ∙ read h in
    subst (λ (x : Counted Stored). Updates test x parts (stored_in last)) back (inner-updates run b (subst (Holds w) (sym back) h))

outer-updates : {test : Stored → Bool} {w : ℕ} {s s' : Counted Stored} {parts : List (List ℕ)} → Updates test s parts s' → Bytes (joined parts)
    → Holds w s → ArrayUpdates test (tag_array_of s) parts (tag_array_of s')
unfolding joined
outer-updates none b h = array.none
outer-updates {test} {w} {s} (more {part = part} {parts = parts} o told ok rest) b h =
    array.more (tag_array o) (ap tag_array told ∙ ap (λ (x : Counted Stored). tag_array (update_outcome (tag_formed test x) x part)) (sym (read h))) ok
    (outer-updates rest (bytes-right part (joined parts) b) (held_update h (tag_formed test s) part (bytes_left part (joined parts) b) o told ok))

-- so tags of either are tags of the other, where the closings tell the same, from a start whose accepted state an array holds
module _ {Tag : Type 0} {test : Stored → Bool} {finish_outcome : Counted Stored → List ℕ → ℕ → Closing (List ℕ)} {number_in : List ℕ → ℕ}
    {inner : Counted Stored → List ℕ → ℕ → Closing Tag} {inner_number : Tag → ℕ}
    (numbers : (s : Counted Stored) (tail : List ℕ) (l : ℕ) → (finish_outcome s tail l).number ≡ (inner s tail l).number)
    (tags : (s : Counted Stored) (tail : List ℕ) (l : ℕ) → number_in (finish_outcome s tail l).tag ≡ inner_number (inner s tail l).tag)
    {w : ℕ} (begun : Outcome) (held : begun.number ≡ 0 → Holds w begun.state) where
  pub inside : (start : TagArray) → start ≡ tag_array begun → {message : List ℕ} {L tag : ℕ} (r : ArrayTagged test finish_outcome number_in start message L tag)
      → (i : Tagged test inner inner_number begun message L tag) × ((i.parts ≡ r.parts) × (i.tail ≡ r.tail) × (i.l ≡ r.l))
  inside start told r = (
    record {
      parts = r.parts;
      tail = r.tail;
      l = r.l;
      message-is = r.message-is;
      L-is = r.L-is;
      started = fine;
      last = s;
      updates = updates-inside begun held start told r.started r.updates (joined_bytes r.parts r.tail r.message-is r.bytes);
      end = inner s r.tail r.l;
      closes = refl;
      accepted = sym (numbers s r.tail r.l) ∙ ap (λ (x : ClosingArray). x.number) (sym r.closes) ∙ r.accepted;
      tag_is = r.tag_is ∙ ap (λ (x : ClosingArray). number_in x.tag) r.closes ∙ tags s r.tail r.l;
    },
    (refl, refl, refl),
  )
    where
      s : Counted Stored
      s = stored_in r.last

      fine : begun.number ≡ 0
      fine = ap (λ (x : TagArray). x.number) (sym told) ∙ r.started

  pub outside : {message : List ℕ} {L tag : ℕ} → Bytes message → (r : Tagged test inner inner_number begun message L tag)
      → (a : ArrayTagged test finish_outcome number_in (tag_array begun) message L tag) × ((a.parts ≡ r.parts) × (a.tail ≡ r.tail) × (a.l ≡ r.l))
  outside b r = (
    record {
      parts = r.parts;
      tail = r.tail;
      l = r.l;
      bytes = b;
      message-is = r.message-is;
      L-is = r.L-is;
      started = r.started;
      last = tag_array_of r.last;
      updates = outer-updates r.updates bytes (held r.started);
      end = closing_array (finish_outcome (stored_in (tag_array_of r.last)) r.tail r.l);
      closes = refl;
      accepted =
          ap (λ (x : Counted Stored). (finish_outcome x r.tail r.l).number) back
          ∙ numbers r.last r.tail r.l
          ∙ ap (λ (x : Closing Tag). x.number) (sym r.closes)
          ∙ r.accepted;
      tag_is =
          r.tag_is
          ∙ ap (λ (x : Closing Tag). inner_number x.tag) r.closes
          ∙ sym (ap (λ (x : Counted Stored). number_in (finish_outcome x r.tail r.l).tag) back ∙ tags r.last r.tail r.l);
    },
    (refl, refl, refl),
  )
    where
      bytes : Bytes (joined r.parts)
      bytes = joined_bytes r.parts r.tail r.message-is b

      back : stored_in (tag_array_of r.last) ≡ r.last
      back = read (held-updates (held r.started) r.updates bytes)

  -- and either accepts a cutting exactly if the other does
  pub accepts-alike : (parts : List (List ℕ)) (tail : List ℕ) (l : ℕ) → Bytes (joined parts ++ tail)
      → ArrayAccepts test finish_outcome number_in (tag_array begun) parts tail l ↔ Accepts test inner inner_number begun parts tail l
  accepts-alike parts tail l b = (
    λ a. let q = inside (tag_array begun) refl a.1 in (a.0, q.0, (q.1.0 ∙ a.2.0, q.1.1 ∙ a.2.1, q.1.2 ∙ a.2.2)),
    λ a. let q = outside b a.1 in (a.0, q.0, (q.1.0 ∙ a.2.0, q.1.1 ∙ a.2.1, q.1.2 ∙ a.2.2)),
  )
