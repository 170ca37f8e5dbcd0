-- Over any calls on a table of fresh links: what is answered to a COUNT, by what was answered before; so no COUNT passes twice between two
-- re-keyings, and none is refused that should pass. And a call alters its own link alone, in any table. By the links' histories.
use borrow.Author.Tests.{eq-eqb, le-leb, le-ltb, leb-true, lt-leb, lt-ltb, ltb-true, ne_eqb, not-true}
use lib.Dec.{eqb, lit<}
use lib.ListN.{length, length-set, replicate}
use lib.Seq.{get_or-set_other}
use mathlib.Core.Bool.{Bool, true, false, ◌&&◌, not, false≢true, or-true}
use mathlib.Core.List.{List, [], ◌∷◌, ◌++◌}
use mathlib.Core.Logic.{⊎_elim}
use mathlib.Core.Path.{◌≡◌, ap, refl, sym, ◌∙◌}
use native.Mathlib.Omega.{arith}
use Prim.Native.Nat.{ℕ, ◌+◌, ◌<◌, ◌≤◌}
use Rattle.guard.proofs.Histories.{among-above, calls-held, held, held-knows}
use Rattle.guard.specs.Outcome.{Guarded, accept_outcome, accepted_call, count_tests, link_at, refused_call, rekey_outcome}
use Rattle.guard.specs.Runs.{Accept, Call, Calls, Elsewhere, NotRekeyed, Rekey, accept, among, highest_of, history_tests, none, rekey, since}
use Rattle.standard.proofs.Each.{place}
use Rattle.standard.proofs.Tested.{Numbered, accepted-passed, decided, passed, tested-map}
use Rattle.standard.specs.Guard.{Link, accepting, fresh, knows, link_over}
use Rattle.std.specs.Prelude.{if◌then◌else◌}
use Rattle.standard.specs.Refusals.{Test, accepted, age_test, link_test, reuse_test, tested}

-- the tests of a link by the tests of its history
by-age : (highest COUNT : ℕ) (known known' : Bool) → (highest ≤ COUNT + 63 → known ≡ known')
    → tested (age_test COUNT highest ∷ reuse_test known ∷ []) (λ k. k) accepted ≡ tested (age_test COUNT highest ∷ reuse_test known' ∷ []) (λ k. k) accepted
unfolding tested
by-age highest COUNT known known' e =
    ⊎_elim (λ h. inside (omega arith)) (λ v. ⊎_elim (λ h. inside (omega arith)) (λ h. rw (lt-leb highest (COUNT + 63) h) refl) v) (place highest (COUNT + 63))
  where
    inside : highest ≤ COUNT + 63
        → tested (age_test COUNT highest ∷ reuse_test known ∷ []) (λ k. k) accepted ≡ tested (age_test COUNT highest ∷ reuse_test known' ∷ []) (λ k. k) accepted
    inside h = ap (λ (b : Bool). tested (age_test COUNT highest ∷ reuse_test b ∷ []) (λ k. k) accepted) (e h)

by-history : (n : ℕ) (counts : List ℕ) (at COUNT : ℕ) (table : List Link) → length table ≡ n → (at < n → link_at table at ≡ held counts)
    → tested (link_test at table ∷ count_tests (link_at table at) COUNT) (λ k. k) accepted ≡ tested (history_tests n counts at COUNT) (λ k. k) accepted
unfolding tested link_over
by-history n counts at COUNT table l is =
    ⊎_elim (λ h. there h) (λ v. ⊎_elim (λ h. absent (omega arith)) (λ h. absent (omega arith)) v) (place at n)
  where
    absent : n ≤ at → tested (link_test at table ∷ count_tests (link_at table at) COUNT) (λ k. k) accepted ≡ tested (history_tests n counts at COUNT) (λ k. k) accepted
    absent h = rw (l, le-ltb at n h) refl

    there : at < n → tested (link_test at table ∷ count_tests (link_at table at) COUNT) (λ k. k) accepted ≡ tested (history_tests n counts at COUNT) (λ k. k) accepted
    there h =
        rw (l, lt-ltb at n h)
        (ap (λ (link : Link). tested (count_tests link COUNT) (λ k. k) accepted) (is h)
        ∙ by-age (highest_of counts) COUNT (knows (held counts) COUNT) (among counts COUNT) (λ b. held-knows counts COUNT (omega arith)))

-- THE GUARD: the number that is answered to a COUNT, by the numbers answered before
module _ (n : ℕ) {log : List Call} {table : List Link} (run : Calls (replicate n fresh) log table) (at COUNT : ℕ) (o : Guarded)
    (told : o ≡ accept_outcome table at COUNT) where
  pub answered : o.number ≡ tested (history_tests n (since at log) at COUNT) (λ k. k) accepted
  unfolding accept_outcome
  answered =
      ap (λ (x : Guarded). x.number) told
      ∙ tested-map (λ (x : Guarded). x.number) (link_test at table ∷ count_tests (link_at table at) COUNT) (refused_call table)
      (accepted_call table at (accepting (link_at table at) COUNT))
      ∙ by-history n (since at log) at COUNT table (calls-held n run).0 ((calls-held n run).1 at)

  -- accepted exactly if the link is there, the COUNT is not more than 63 below the highest accepted since the last re-keying, and was not
  -- accepted since
  pub accepted-only : o.number ≡ accepted → (at < n) × (highest_of (since at log) ≤ COUNT + 63) × (among (since at log) COUNT ≡ false)
  accepted-only ok =
      let all = accepted-passed (λ (k : ℕ). k) (λ k. k) (λ k. refl) accepted (history_tests n (since at log) at COUNT) (lit< tt, (lit< tt, (lit< tt, tt))) (sym answered ∙ ok) in
      (ltb-true at n all.0, leb-true (highest_of (since at log)) (COUNT + 63) all.1.0, not-true (among (since at log) COUNT) all.1.1.0)

  pub accepted-always : at < n → highest_of (since at log) ≤ COUNT + 63 → among (since at log) COUNT ≡ false → o.number ≡ accepted
  accepted-always there age new =
      answered
      ∙ passed (history_tests n (since at log) at COUNT) (λ k. k) accepted
      (lt-ltb at n there, (le-leb (highest_of (since at log)) (COUNT + 63) age, (ap not new, tt)))

-- a COUNT that was accepted is among those since the last re-keying, while none came after it
still-among : (link COUNT number : ℕ) (later earlier : List Call) → number ≡ accepted → NotRekeyed link later
    → among (since link (later ++ Accept link COUNT number ∷ earlier)) COUNT ≡ true
unfolding since among
still-among link COUNT number [] earlier ok none-since =
    rw (eq-eqb link link refl, eq-eqb number accepted ok) (rw (eq-eqb COUNT COUNT refl) refl)
still-among link COUNT number (Accept at m k ∷ later) earlier ok none-since =
    more (eqb at link && eqb k accepted) (still-among link COUNT number later earlier ok none-since)
  where
    counts : List ℕ
    counts = since link (later ++ Accept link COUNT number ∷ earlier)

    more : (b : Bool) → among counts COUNT ≡ true → among (if b then m ∷ counts else counts) COUNT ≡ true
    more true e = rw e (or-true (eqb COUNT m))
    more false e = e
still-among link COUNT number (Rekey at k ∷ later) earlier ok none-since =
    rw (ne_eqb at link none-since.0) (still-among link COUNT number later earlier ok none-since.1)

-- NO COUNT TWICE: one that was accepted on a link is not accepted there again, unless the link was re-keyed in between
pub no-count-twice : (n : ℕ) (link COUNT number : ℕ) (later earlier : List Call) {table : List Link}
    → Calls (replicate n fresh) (later ++ Accept link COUNT number ∷ earlier) table → number ≡ accepted → NotRekeyed link later
    → (o : Guarded) → o ≡ accept_outcome table link COUNT → o.number ≡ accepted → ⊥
no-count-twice n link COUNT number later earlier run ok none-since o told again =
    false≢true (sym (accepted-only n run link COUNT o told again).2 ∙ still-among link COUNT number later earlier ok none-since)

-- COUNT does not wrap: after 4294967295 only counts of its window pass that were not accepted
pub no_wrap : (n : ℕ) {log : List Call} {table : List Link} (run : Calls (replicate n fresh) log table) (at COUNT : ℕ) (o : Guarded)
    → o ≡ accept_outcome table at COUNT → among (since at log) 4294967295 ≡ true → o.number ≡ accepted
    → (4294967232 ≤ COUNT) × (among (since at log) COUNT ≡ false)
no_wrap n {log} run at COUNT o told last ok = (omega (arith, a.1, reached), a.2)
  where
    a : (at < n) × (highest_of (since at log) ≤ COUNT + 63) × (among (since at log) COUNT ≡ false)
    a = accepted-only n run at COUNT o told ok

    reached : 4294967295 ≤ highest_of (since at log)
    reached =
        ⊎_elim (λ h. omega arith) (λ v. ⊎_elim (λ e. omega arith) (λ h. absurd (false≢true (sym (among-above (since at log) 4294967295 h) ∙ last))) v)
        (place 4294967295 (highest_of (since at log)))

-- A CALL ALTERS ITS OWN LINK ALONE, and not how many there are: of any table, and so over any calls
module _ (table : List Link) (at : ℕ) (o : Guarded) (link : Link) (tests : List Test) (low : Numbered tests)
    (told : o ≡ tested tests (refused_call table) (accepted_call table at link)) where
  alone : (length o.table ≡ length table) × ((i : ℕ) → (i ≡ at → ⊥) → link_at o.table i ≡ link_at table i)
  alone =
      ⊎_elim
      (λ all. let t = ap (λ (x : Guarded). x.table) (told ∙ passed tests (refused_call table) (accepted_call table at link) all) in
      (ap length t ∙ length-set table at link, λ i q. ap (λ (x : List Link). link_at x i) t ∙ get_or-set_other table at i link fresh q))
      (λ r. let t = ap (λ (x : Guarded). x.table) (told ∙ r.2) in (ap length t, λ i q. ap (λ (x : List Link). link_at x i) t))
      (decided tests (refused_call table) (accepted_call table at link) low)

module _ (table : List Link) (at : ℕ) (o : Guarded) where
  pub own-link-accept : (COUNT : ℕ) → o ≡ accept_outcome table at COUNT
      → (length o.table ≡ length table) × ((i : ℕ) → (i ≡ at → ⊥) → link_at o.table i ≡ link_at table i)
  unfolding accept_outcome
  own-link-accept COUNT told =
      alone table at o (accepting (link_at table at) COUNT) (link_test at table ∷ count_tests (link_at table at) COUNT) (lit< tt, (lit< tt, (lit< tt, tt))) told

  pub own-link-rekey : o ≡ rekey_outcome table at → (length o.table ≡ length table) × ((i : ℕ) → (i ≡ at → ⊥) → link_at o.table i ≡ link_at table i)
  unfolding rekey_outcome
  own-link-rekey told = alone table at o fresh (link_test at table ∷ []) (lit< tt, tt) told

pub own-link : (before : List Link) {log : List Call} {table : List Link} → Calls before log table → (i : ℕ) → Elsewhere i log
    → (length table ≡ length before) × (link_at table i ≡ link_at before i)
own-link before none i away = (refl, refl)
own-link before (accept {now = now} at COUNT o told rest) i away =
    let h = own-link before rest i away.1 in
    let c = own-link-accept now at o COUNT told in
    (c.0 ∙ h.0, c.1 i (λ q. away.0 (sym q)) ∙ h.1)
own-link before (rekey {now = now} at o told rest) i away =
    let h = own-link before rest i away.1 in
    let c = own-link-rekey now at o told in
    (c.0 ∙ h.0, c.1 i (λ q. away.0 (sym q)) ∙ h.1)

-- a re-keying is accepted exactly if the link is there, and then none is accepted since
pub rekeyed-exactly : (table : List Link) (at : ℕ) (o : Guarded) → o ≡ rekey_outcome table at
    → (o.number ≡ accepted → at < length table) × (at < length table → o.number ≡ accepted)
unfolding rekey_outcome
rekeyed-exactly table at o told = (
  λ ok. ltb-true at (length table)
      (accepted-passed (λ (x : Guarded). x.number) (refused_call table) (λ k. refl) (accepted_call table at fresh) (link_test at table ∷ []) (lit< tt, tt)
      (ap (λ (x : Guarded). x.number) (sym told) ∙ ok)).0,
  λ h. ap (λ (x : Guarded). x.number) (told ∙ passed (link_test at table ∷ []) (refused_call table) (accepted_call table at fresh) (lt-ltb at (length table) h, tt)),
)
