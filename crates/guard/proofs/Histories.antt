-- What the calls on a table of fresh links leave in it: each link is the one over the counts accepted on it since its last re-keying; by
-- induction on the calls.
use borrow.Author.Tests.{eq-eqb, ltb-true, ne_eqb}
use lib.Dec.{eqb, lit<}
use lib.ListN.{get_or-replicate, length, length-replicate, length-set, replicate, set}
use lib.Seq.{get_or-set_other, get_or-set_same}
use mathlib.Core.Bool.{Bool, true, false, ◌&&◌, ◌||◌, and-false}
use mathlib.Core.List.{List, [], ◌∷◌}
use mathlib.Core.Logic.{⊎_elim}
use mathlib.Core.Path.{◌≡◌, ap, refl, subst, sym, ◌∙◌}
use native.Mathlib.Nat.{le-max_left, le-max_right}
use native.Mathlib.Omega.{arith}
use Prim.Native.Nat.{ℕ, ◌-◌, ◌<◌, max}
use Rattle.guard.specs.Outcome.{Guarded, accept_outcome, accepted_call, count_tests, link_at, refused_call, rekey_outcome}
use Rattle.guard.specs.Runs.{Call, Calls, accept, among, highest_of, none, rekey, since}
use Rattle.standard.proofs.Each.{place}
use Rattle.standard.proofs.Guard.{fresh-over, knows-above, knows_over, over-on}
use Rattle.standard.proofs.Tested.{AllPass, Numbered, decided, passed}
use Rattle.standard.specs.Guard.{Link, accepting, fresh, knows, link_over, window_counts}
use Rattle.std.specs.Prelude.{if◌then◌else◌}
use Rattle.standard.specs.Refusals.{Test, accepted, link_test, tested}

-- the link over some counts
abbrev pub held : List ℕ → Link
held counts = link_over (highest_of counts) (among counts)

-- none of them is above the highest
pub among-above : (counts : List ℕ) (n : ℕ) → highest_of counts < n → among counts n ≡ false
unfolding among highest_of
among-above [] n h = refl
among-above (m ∷ rest) n h =
    rw (ne_eqb n m (λ e. omega (arith, le-max_right (highest_of rest) m))) (among-above rest n (omega (arith, le-max_left (highest_of rest) m)))

pub held-highest : (counts : List ℕ) → (held counts).highest ≡ highest_of counts
unfolding link_over
held-highest counts = refl

-- what it knows of a COUNT that is not below its window
pub held-knows : (counts : List ℕ) (n : ℕ) → highest_of counts - n < window_counts → knows (held counts) n ≡ among counts n
unfolding link_over
held-knows counts n w =
    ⊎_elim (λ h. knows_over (highest_of counts) (among counts) n (omega arith) w)
    (λ v. ⊎_elim (λ h. knows_over (highest_of counts) (among counts) n (omega arith) w) (λ h. knows-above (held counts) n h ∙ sym (among-above counts n h)) v)
    (place n (highest_of counts))

-- an accepted COUNT is one more of them
accepting-held : (counts : List ℕ) (COUNT : ℕ) → accepting (held counts) COUNT ≡ held (COUNT ∷ counts)
unfolding accepting highest_of among link_over
accepting-held counts COUNT =
    over-on (max (highest_of counts) COUNT) (λ n. eqb n COUNT || knows (held counts) n) (λ n. eqb n COUNT || among counts n)
    (λ n h w. ap (λ (b : Bool). eqb n COUNT || b) (held-knows counts n (omega (arith, le-max_left (highest_of counts) COUNT))))

held_none : fresh ≡ held []
unfolding highest_of among
held_none = sym fresh-over

-- the table after some calls: every link by its history
abbrev pub Held : ℕ → List Call → List Link → Type 0
Held n log table = (length table ≡ n) × ((i : ℕ) → i < n → link_at table i ≡ held (since i log))

-- one call more: it passed every test and set its link, or it left the table
module _ (n : ℕ) (log : List Call) (table : List Link) (here : Held n log table) (at : ℕ) (tests : List Test) (low : Numbered tests) (link : Link)
    (counts : ℕ → List ℕ) (is : at < n → link ≡ held (counts at)) (o : Guarded)
    (told : o ≡ tested (link_test at table ∷ tests) (refused_call table) (accepted_call table at link)) where
  abbrev after : ℕ → List ℕ
  after i = if eqb at i && eqb o.number accepted then counts i else since i log

  abbrev Kept : Type 0
  Kept = (length o.table ≡ n) × ((i : ℕ) → i < n → link_at o.table i ≡ held (after i))

  set-held : AllPass (link_test at table ∷ tests) → Kept
  set-held all = (ap length t ∙ length-set table at link ∙ here.0, each)
    where
      e : o ≡ accepted_call table at link
      e = told ∙ passed (link_test at table ∷ tests) (refused_call table) (accepted_call table at link) all

      t : o.table ≡ set table at link
      t = ap (λ (x : Guarded). x.table) e

      within : at < length table
      within = ltb-true at (length table) all.0

      yes : eqb o.number accepted ≡ true
      yes = ap (λ (x : Guarded). eqb x.number accepted) e

      same : (i : ℕ) → at ≡ i → link_at o.table i ≡ held (after i)
      same i q =
          rw (eq-eqb at i q, yes)
          (subst (λ (j : ℕ). link_at o.table j ≡ held (counts j)) q
          (ap (λ (x : List Link). link_at x at) t ∙ get_or-set_same table at link fresh within ∙ is (omega (arith, here.0, within))))

      other : (i : ℕ) → i < n → (i ≡ at → ⊥) → link_at o.table i ≡ held (after i)
      other i h q =
          rw (ne_eqb at i (λ p. q (sym p)))
          (ap (λ (x : List Link). link_at x i) t ∙ get_or-set_other table at i link fresh q ∙ here.1 i h)

      each : (i : ℕ) → i < n → link_at o.table i ≡ held (after i)
      each i h =
          ⊎_elim (λ b. other i h (λ p. omega arith)) (λ v. ⊎_elim (λ q. same i q) (λ b. other i h (λ p. omega arith)) v) (place at i)

  left-held : (m : ℕ) × (0 < m) × (tested (link_test at table ∷ tests) (refused_call table) (accepted_call table at link) ≡ refused_call table m) → Kept
  left-held r = (ap length t ∙ here.0, λ i h. rw (no, and-false (eqb at i)) (ap (λ (x : List Link). link_at x i) t ∙ here.1 i h))
    where
      t : o.table ≡ table
      t = ap (λ (x : Guarded). x.table) (told ∙ r.2)

      no : eqb o.number accepted ≡ false
      no = ap (λ (x : Guarded). eqb x.number accepted) (told ∙ r.2) ∙ ne_eqb r.0 accepted (λ z. omega (arith, r.1))

  called : Kept
  called =
      ⊎_elim set-held left-held
      (decided (link_test at table ∷ tests) (refused_call table) (accepted_call table at link) (lit< tt, low))

-- any calls on a table of fresh links
pub calls-held : (n : ℕ) {log : List Call} {table : List Link} → Calls (replicate n fresh) log table → Held n log table
unfolding since accept_outcome rekey_outcome
calls-held n none = (length-replicate n fresh, λ i h. get_or-replicate n i fresh fresh h ∙ held_none)
calls-held n (accept {log} {now} at COUNT o told rest) =
    let here = calls-held n rest in
    called n log now here at (count_tests (link_at now at) COUNT) (lit< tt, (lit< tt, tt)) (accepting (link_at now at) COUNT) (λ i. COUNT ∷ since i log)
    (λ h. ap (λ (l : Link). accepting l COUNT) (here.1 at h) ∙ accepting-held (since at log) COUNT) o told
calls-held n (rekey {log} {now} at o told rest) =
    called n log now (calls-held n rest) at [] tt fresh (λ i. []) (λ h. held_none) o told
