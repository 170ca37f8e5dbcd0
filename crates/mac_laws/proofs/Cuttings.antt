-- When a run of calls is accepted: for bytes cut anyhow into parts and a tail, exactly if l is at most 8 times the tail and the words of the
-- whole message are within the limit. Once over the width, by states that stay good and counts that add up; then for each start.
use mathlib.Core.Bool.{Bool, true}
use mathlib.Core.List.{List, [], ◌∷◌}
use mathlib.Core.Logic.{◌↔◌, inl}
use mathlib.Core.Path.{◌≡◌, refl, sym, ap, ◌∙◌, subst}
use Prim.Native.Nat.{ℕ, ◌+◌, ◌*◌, ◌%◌, ◌^◌, ◌≤◌, ◌<◌}
use native.Mathlib.Nat.{add_assoc}
use native.Mathlib.Omega.{arith}
use lib.Bits.{xor_lt}
use lib.Dec.{lit<}
use lib.ListN.{length}
use borrow.Author.Tests.{eq-eqb, le-leb, lt-leb}
use Rattle.standard.specs.Bits.{byte_of}
use Rattle.standard.specs.Generator.{State, started}
use Rattle.standard.specs.Integrity.{IV-EIA3, drawn_by_tag-EIA3, drawn_by_tag-ZUC256, words_to_close-EIA3, words_to_close-ZUC256, words_to_update}
use Rattle.standard.specs.Loading.{load₁₂₈, load₂₅₆, row_of}
use Rattle.standard.specs.Notation.{joined}
use Rattle.standard.specs.Refusals.{bits_test, iv_test, key_test, limit_test, spent, state_test, tested, width_test}
use Rattle.standard.specs.States.{Counted, Stored, formed, formed-128, from_zero, limit, tag_formed}
use Rattle.standard.proofs.Cells.{Cells}
use Rattle.standard.proofs.Generator.{sound-started}
use Rattle.standard.proofs.Held.{Ready}
use Rattle.standard.proofs.Tested.{passed}
use Rattle.zuc_loading.proofs.Loaded.{Bytes, byte-lt, cells-128, cells-256, each-byte}
use Rattle.mac_registers.specs.Inner.{Good, Width}
use Rattle.mac_registers.specs.Stored.{packed, tag_of}
use Rattle.mac_registers.specs.Tagging.{Tagging, begun-EIA3, begun-ZUC256, updated}
use Rattle.mac_registers.proofs.Packed.{and_both, good-EIA3, good-ZUC256, good-updated, is-width, well-formed, width-whole}
use Rattle.mac_counts.proofs.Drawn.{drew-updated}
use Rattle.mac_counts.proofs.InTurn.{all-EIA3, all-ZUC256, close-in-turn-EIA3, close-in-turn-ZUC256}
use Rattle.mac.specs.Calls.{Closing, Outcome, begun_tag-128, begun_tag-256, close_words-128, close_words-256, closing, finish_outcome-128, finish_outcome-256, no_words, refused_tag, start_outcome-128, start_outcome-256, start_outcome-EIA3, update_outcome, update_words}
use Rattle.mac.specs.Runs.{Accepts, Accepts-128, Accepts-256, Tagged, Updates, more, none}
use Rattle.mac.proofs.Accepted.{row-of}
use Rattle.mac_laws.proofs.Counts.{count-is, words-in-turn}
use Rattle.mac_laws.proofs.Runs.{closing-accepted, ended, update-accepted, update-is, updates-are}

-- a state of a good tagging within the limit passes, and an update whose words are left is accepted
pub tag-formed : (test : Stored → Bool) (s : Counted Stored) → test s.held ≡ true → s.count ≤ limit → tag_formed test s ≡ true
unfolding tag_formed
tag-formed test s e h = and_both e (le-leb s.count limit h)

pub update-ok : (ok : Bool) (s : Counted Stored) (m : List ℕ) → ok ≡ true → s.count + update_words s.held m ≤ limit → (update_outcome ok s m).number ≡ 0
unfolding update_outcome
update-ok ok s m e h =
    ap (λ (x : Outcome). x.number)
    (passed (state_test ok ∷ limit_test s.count (update_words s.held m) ∷ []) _ _ (e, (le-leb (s.count + update_words s.held m) limit h, tt)))

-- a kind of tag: its test passes every good state, its closing is accepted exactly if the bits fit and its words are left, and where
-- only these are not it is spent; after an update its words are those of one closing over both
pub record Kind {Tag : Type 0} (test : Stored → Bool) (finish_outcome : Counted Stored → List ℕ → ℕ → Closing Tag)
    (words : Stored → ℕ → ℕ) (close : ℕ → ℕ → ℕ) (w : ℕ) : Type 0 where
  pub width : Width w
  pub passes : (st : Tagging) → Good w st → test (packed w st) ≡ true
  pub close-is : (st : Tagging) (l : ℕ) → words (packed w st) l ≡ close (length st.waiting) l
  pub closes : (s : Counted Stored) (tail : List ℕ) (l : ℕ) → tag_formed test s ≡ true → l ≤ length tail * 8 → s.count + words s.held l ≤ limit
      → (finish_outcome s tail l).number ≡ 0
  pub closed : (s : Counted Stored) (tail : List ℕ) (l : ℕ) → (finish_outcome s tail l).number ≡ 0
      → (l ≤ length tail * 8) × (s.count + words s.held l ≤ limit)
  pub spends : (s : Counted Stored) (tail : List ℕ) (l : ℕ) → tag_formed test s ≡ true → l ≤ length tail * 8 → limit < s.count + words s.held l
      → (finish_outcome s tail l).number ≡ spent
  pub in-turn : (c a l : ℕ) → words_to_update (w * 8) c a + close ((c + a) % w) l ≡ close c (a * 8 + l)

module _ {Tag : Type 0} {test : Stored → Bool} {finish_outcome : Counted Stored → List ℕ → ℕ → Closing Tag}
    {words : Stored → ℕ → ℕ} {close : ℕ → ℕ → ℕ} {w : ℕ} (k : Kind test finish_outcome words close w) where
  -- the words of a state after m bytes and a closing by l bits
  pub words-then : (st : Tagging) → Good w st → (m : List ℕ) (s : Stored) → s ≡ packed w (updated (w * 8) st m) → (l : ℕ)
      → words_to_update (w * 8) (length st.waiting) (length m) + words s l ≡ close (length st.waiting) (length m * 8 + l)
  words-then st g m s e l =
      let c : ℕ = length st.waiting in
      ap (λ (n : ℕ). words_to_update (w * 8) c (length m) + n)
      (ap (λ (x : Stored). words x l) e
      ∙ k.close-is (updated (w * 8) st m) l
      ∙ ap (λ (n : ℕ). close n l) (drew-updated (omega (arith, g.short)) m st g.short).1)
      ∙ k.in-turn c (length m) l

  run : (parts : List (List ℕ)) (st : Tagging) → Good w st → (s : Counted Stored) → s.held ≡ packed w st
      → s.count + words_to_update (w * 8) (length st.waiting) (length (joined parts)) ≤ limit → (last : Counted Stored) × Updates test s parts last
  unfolding joined packed
  run [] st g s e h = (s, none)
  run (part ∷ parts) st g s e h =
      let c : ℕ = length st.waiting in
      let o : Outcome = update_outcome (tag_formed test s) s part in
      let next : Tagging = updated (w * 8) st part in
      let first : update_words s.held part ≡ words_to_update (w * 8) c (length part) = ap (λ (x : Stored). update_words x part) e in
      let all = words-in-turn st g.short part (joined parts) in
      let fine : o.number ≡ 0 =
      update-ok (tag_formed test s) s part (tag-formed test s (ap test e ∙ k.passes st g) (omega (arith, h))) (omega (arith, h, first, all)) in
      let raised : o.state.count ≡ s.count + update_words s.held part =
      ap (λ (x : Counted Stored). x.count) (update-accepted (tag_formed test s) s part fine).2 in
      let rest = run parts next (good-updated part g) o.state (update-is (tag_formed test s) k.width s part o refl fine st e) (omega (arith, h, first, all, raised)) in
      (rest.0, more {s' = rest.0} o refl fine rest.1)

  module _ (number_in : Tag → ℕ) (st : Tagging) (good : Good w st) (start : Outcome) (begun : start.state.held ≡ packed w st) (ok : start.number ≡ 0) where
    -- what the calls of a run draw in all
    abbrev total : ℕ → ℕ
    total L = start.state.count + close (length st.waiting) L

    drawn-in-all : {parts : List (List ℕ)} {last : Counted Stored} → Updates test start.state parts last → (l : ℕ)
        → last.count + words last.held l ≡ total (length (joined parts) * 8 + l)
    drawn-in-all {parts} {last} updates l =
        ap (λ (n : ℕ). n + words last.held l) (count-is k.width updates st good.short begun)
        ∙ add_assoc start.state.count (words_to_update (w * 8) (length st.waiting) (length (joined parts))) (words last.held l)
        ∙ ap (λ (n : ℕ). start.state.count + n) (words-then st good (joined parts) last.held (updates-are k.width updates st begun) l)

    module _ (parts : List (List ℕ)) (tail : List ℕ) (l : ℕ) where
      every-cutting : l ≤ length tail * 8 → total (length (joined parts) * 8 + l) ≤ limit → Accepts test finish_outcome number_in start parts tail l
      every-cutting h left =
          let end : Tagging = updated (w * 8) st (joined parts) in
          let sum = words-then st good (joined parts) (packed w end) refl l in
          let r : (last : Counted Stored) × Updates test start.state parts last = run parts st good start.state begun (omega (arith, left, sum)) in
          let at : r.0.held ≡ packed w end = updates-are k.width r.1 st begun in
          let all = drawn-in-all r.1 l in
          let fits : r.0.count + words r.0.held l ≤ limit = subst (λ (n : ℕ). n ≤ limit) (sym all) left in (
            number_in (finish_outcome r.0 tail l).tag,
            ended test finish_outcome number_in parts start ok r.0 r.1 tail l (finish_outcome r.0 tail l) refl
                (k.closes r.0 tail l (tag-formed test r.0 (ap test at ∙ k.passes end (good-updated (joined parts) good)) (omega (arith, fits))) h fits),
            (refl {a = parts}, refl {a = tail}, refl {a = l}),
          )

    within : {message : List ℕ} {L tag : ℕ} (r : Tagged test finish_outcome number_in start message L tag) → (r.l ≤ length r.tail * 8) × (total L ≤ limit)
    within {message} {L} r =
        let c = k.closed r.last r.tail r.l (ap (λ (x : Closing Tag). x.number) (sym r.closes) ∙ r.accepted) in
        (c.0, subst (λ (n : ℕ). n ≤ limit) (drawn-in-all r.updates r.l ∙ ap total (sym r.L-is)) c.1)

    -- both ways
    pub exactly : (parts : List (List ℕ)) (tail : List ℕ) (l : ℕ)
        → Accepts test finish_outcome number_in start parts tail l ↔ ((l ≤ length tail * 8) × (total (length (joined parts) * 8 + l) ≤ limit))
    exactly parts tail l = (
      λ a. let both = within a.1 in
          (subst (λ (n : ℕ). n ≤ length tail * 8) a.2.2 (subst (λ (x : List ℕ). a.1.l ≤ length x * 8) a.2.1 both.0), both.1),
      λ h. every-cutting parts tail l h.0 h.1,
    )

-- the kinds: ZUC-128 with EIA3, and ZUC-256 at a width
closing-ok : {Tag : Type 0} (empty : Tag) (ok : Bool) (s : Counted Stored) (words : ℕ) (tail : List ℕ) (l : ℕ) (tag : Tag)
    → ok ≡ true → l ≤ length tail * 8 → s.count + words ≤ limit → (closing empty ok s words tail l tag).number ≡ 0
unfolding closing
closing-ok {Tag} empty ok s words tail l tag e h left =
    ap (λ (x : Closing Tag). x.number)
    (passed (state_test ok ∷ bits_test l tail ∷ limit_test s.count words ∷ []) _ _ (e, (le-leb l (length tail * 8) h, (le-leb (s.count + words) limit left, tt))))

closing-spent : {Tag : Type 0} (empty : Tag) (ok : Bool) (s : Counted Stored) (words : ℕ) (tail : List ℕ) (l : ℕ) (tag : Tag)
    → ok ≡ true → l ≤ length tail * 8 → limit < s.count + words → (closing empty ok s words tail l tag).number ≡ spent
unfolding closing tested
closing-spent empty ok s words tail l tag e h over = rw (e, le-leb l (length tail * 8) h, lt-leb (s.count + words) limit over) refl

pub kind-128 : Kind formed-128 finish_outcome-128 close_words-128 words_to_close-EIA3 4
unfolding finish_outcome-128 formed-128 packed
kind-128 =
    record {
      width = inl refl;
      passes = λ st g. and_both (well-formed g) refl;
      close-is = λ st l. refl;
      closes = λ s tail l e h left. closing-ok 0 (tag_formed formed-128 s) s (close_words-128 s.held l) tail l _ e h left;
      closed = λ s tail l e. let c = closing-accepted 0 (tag_formed formed-128 s) s (close_words-128 s.held l) tail l _ e in (c.0, c.1);
      spends = λ s tail l e h over. closing-spent 0 (tag_formed formed-128 s) s (close_words-128 s.held l) tail l _ e h over;
      in-turn = close-in-turn-EIA3;
    }

pub kind-256 : {w : ℕ} → Width w → Kind formed finish_outcome-256 close_words-256 (words_to_close-ZUC256 (w * 8)) w
unfolding finish_outcome-256 packed
kind-256 {w} v =
    record {
      width = v;
      passes = λ st g. well-formed g;
      close-is = λ st l. refl;
      closes = λ s tail l e h left. closing-ok no_words (tag_formed formed s) s (close_words-256 s.held l) tail l _ e h left;
      closed = λ s tail l e. let c = closing-accepted no_words (tag_formed formed s) s (close_words-256 s.held l) tail l _ e in (c.0, c.1);
      spends = λ s tail l e h over. closing-spent no_words (tag_formed formed s) s (close_words-256 s.held l) tail l _ e h over;
      in-turn = λ c a l. close-in-turn-ZUC256 w c a (omega (arith, width-whole v)) l;
    }

-- starts whose width, key and IV fit
pub begins-zuc128 : (key iv : List ℕ) → length key ≡ 16 → length iv ≡ 16 → start_outcome-128 key iv ≡ begun_tag-128 (load₁₂₈ key iv)
unfolding start_outcome-128
begins-zuc128 key iv a b = passed (key_test 16 key ∷ iv_test 16 iv ∷ []) refused_tag _ (eq-eqb (length key) 16 a, (eq-eqb (length iv) 16 b, tt))

pub begins-eia3 : (count bearer direction : ℕ) (key : List ℕ) → length key ≡ 16
    → start_outcome-EIA3 count bearer direction key ≡ begun_tag-128 (load₁₂₈ key (IV-EIA3 count bearer direction))
unfolding start_outcome-EIA3
begins-eia3 count bearer direction key a = passed (key_test 16 key ∷ []) refused_tag _ (eq-eqb (length key) 16 a, tt)

pub begins-zuc256 : {w : ℕ} → Width w → (key iv : List ℕ) → length key ≡ 32 → length iv ≡ 23 → start_outcome-256 w key iv ≡ begun_tag-256 w (load₂₅₆ (row_of w) key iv)
unfolding start_outcome-256
begins-zuc256 {w} v key iv a b =
    passed (width_test w ∷ key_test 32 key ∷ iv_test 23 iv ∷ []) refused_tag _ (is-width v, (eq-eqb (length key) 32 a, (eq-eqb (length iv) 23 b, tt)))

-- and the state of one is good
pub good_start : (loaded : State) → Cells loaded.cells → Ready (from_zero (started loaded))
good_start loaded c = record { cells = sound-started loaded c; start = lit< tt }

-- ZUC-128 and EIA3, over what was loaded
cutting-128 : (loaded : State) → Cells loaded.cells → (start : Outcome) → start ≡ begun_tag-128 loaded
    → (parts : List (List ℕ)) (tail : List ℕ) (l : ℕ)
    → Accepts-128 start parts tail l ↔ ((l ≤ length tail * 8) × (drawn_by_tag-EIA3 (length (joined parts) * 8 + l) ≤ limit))
unfolding begun-EIA3
cutting-128 loaded c start begun parts tail l =
    let σ = from_zero (started loaded) in
    let L : ℕ = length (joined parts) * 8 + l in
    subst (λ (n : ℕ). Accepts-128 start parts tail l ↔ ((l ≤ length tail * 8) × (n ≤ limit)))
    (ap (λ (o : Outcome). o.state.count + words_to_close-EIA3 0 L) begun ∙ all-EIA3 L)
    (exactly kind-128 (λ tag. tag) (begun-EIA3 σ) (good-EIA3 σ (good_start loaded c)) start (ap (λ (o : Outcome). o.state.held) begun)
    (ap (λ (o : Outcome). o.number) begun) parts tail l)

pub every-cutting-zuc128 : (key iv : List ℕ) → length key ≡ 16 → length iv ≡ 16 → Bytes key → Bytes iv
    → (parts : List (List ℕ)) (tail : List ℕ) (l : ℕ)
    → Accepts-128 (start_outcome-128 key iv) parts tail l ↔ ((l ≤ length tail * 8) × (drawn_by_tag-EIA3 (length (joined parts) * 8 + l) ≤ limit))
every-cutting-zuc128 key iv a b hk hv = cutting-128 (load₁₂₈ key iv) (cells-128 key iv hk hv) (start_outcome-128 key iv) (begins-zuc128 key iv a b)

-- EIA3's IV is bytes
pub iv-bytes : (count bearer direction : ℕ) → Bytes (IV-EIA3 count bearer direction)
unfolding IV-EIA3
iv-bytes count bearer direction =
    let c = byte-lt count in
    each-byte (IV-EIA3 count bearer direction) (
      c 0,
      (
        c 1,
        (
          c 2,
          (
            c 3,
            (
              omega arith,
              (
                lit< tt,
                (
                  lit< tt,
                  (
                    lit< tt,
                    (xor_lt 8 (byte_of count 0) (direction % 2 * 2 ^ 7) (c 0) (omega arith), (c 1, (c 2, (c 3, (omega arith, (lit< tt, (xor_lt 8 0 (direction % 2 * 2 ^ 7) (lit< tt) (omega arith), (lit< tt, tt)))))))),
                  ),
                ),
              ),
            ),
          ),
        ),
      ),
    )

pub every-cutting-eia3 : (count bearer direction : ℕ) (key : List ℕ) → length key ≡ 16 → Bytes key
    → (parts : List (List ℕ)) (tail : List ℕ) (l : ℕ)
    → Accepts-128 (start_outcome-EIA3 count bearer direction key) parts tail l ↔ ((l ≤ length tail * 8) × (drawn_by_tag-EIA3 (length (joined parts) * 8 + l) ≤ limit))
every-cutting-eia3 count bearer direction key a hk =
    let iv : List ℕ = IV-EIA3 count bearer direction in
    cutting-128 (load₁₂₈ key iv) (cells-128 key iv hk (iv-bytes count bearer direction)) (start_outcome-EIA3 count bearer direction key)
    (begins-eia3 count bearer direction key a)

pub every-cutting-zuc256 : {w : ℕ} → Width w → (key iv : List ℕ) → length key ≡ 32 → length iv ≡ 23 → Bytes key → Bytes iv
    → (parts : List (List ℕ)) (tail : List ℕ) (l : ℕ)
    → Accepts-256 w (start_outcome-256 w key iv) parts tail l ↔ ((l ≤ length tail * 8) × (drawn_by_tag-ZUC256 (w * 8) (length (joined parts) * 8 + l) ≤ limit))
unfolding begun-ZUC256
every-cutting-zuc256 {w} v key iv a b hk hv parts tail l =
    let loaded : State = load₂₅₆ (row_of w) key iv in
    let σ = from_zero (started loaded) in
    let L : ℕ = length (joined parts) * 8 + l in
    let begun = begins-zuc256 v key iv a b in
    subst (λ (n : ℕ). Accepts-256 w (start_outcome-256 w key iv) parts tail l ↔ ((l ≤ length tail * 8) × (n ≤ limit)))
    (ap (λ (o : Outcome). o.state.count + words_to_close-ZUC256 (w * 8) 0 L) begun ∙ all-ZUC256 (w * 8) L)
    (exactly (kind-256 v) (tag_of w) (begun-ZUC256 (w * 8) σ) (good-ZUC256 v σ (good_start loaded (cells-256 (row_of w) key iv (row-of w) hk hv)))
    (start_outcome-256 w key iv) (ap (λ (o : Outcome). o.state.held) begun) (ap (λ (o : Outcome). o.number) begun) parts tail l)
