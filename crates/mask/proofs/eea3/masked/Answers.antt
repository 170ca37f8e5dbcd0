-- `masked`: the tests decide the outcome; past them the mask by the keystream is the mode's.
use mathlib.Core.Bool.{true}
use mathlib.Core.Path.{◌≡◌, ◌∙◌, sym}
use Prim.Native.Nat.{◌*◌}
use lib.Dec.{eqb, leb}
use lib.ListN.{length}
use borrow.Author.Tests.{eq-eqb, leb-true, ne_eqb}
use Rattle.standard.specs.Generator.{keystream}
use Rattle.standard.specs.Refusals.{accepted, key_test}
use Rattle.mask.specs.Modes.{mode_mask, mode_words}
use Rattle.mask.specs.Once.{Once, drawn_once, plain_tested, refused_once}
use Rattle.mask.proofs.Once.{loaded}
use Rattle.mask.proofs.Outcomes.{Call, bad-bits, bad-first, done, mode-mask, too_many}
use mathlib.Core.Bool.{Bool}
use mathlib.Core.List.{List}
use Prim.Native.Nat.{ℕ}
use Rattle.mask.proofs.eea3.masked.Goals as goal

-- what the one call is told by: its tests in their order, and what each end hands back
abbrev call : (clean : Bool) (count bearer direction : ℕ) (key : List ℕ) (bits : ℕ) (buf : List ℕ) → Call Once
call clean count bearer direction key bits buf =
    let n = mode_words clean bits buf in
    record {
      first = key_test 16 key;
      L = bits;
      buffer = buf;
      count = 0;
      words = n;
      refused = refused_once buf;
      answer = drawn_once n (mode_mask clean (keystream (loaded count bearer direction key)) bits buf);
    }

pub returns-then-key-ne16 : goal.returns-then-key-ne16
unfolding plain_tested
returns-then-key-ne16 c =
    bad-first (call c.args.clean c.args.count c.args.bearer c.args.direction c.args.key.now c.args.bits c.args.buf.now) (ne_eqb _ 16 c.if-key-ne16.true)

pub returns-then-not-bits_fit : goal.returns-then-not-bits_fit
unfolding plain_tested
returns-then-not-bits_fit c =
    bad-bits (call c.args.clean c.args.count c.args.bearer c.args.direction c.args.key.now c.args.bits c.args.buf.now) (eq-eqb _ 16 c.if-key-ne16.false) (sym c.if-not-bits_fit.ensures)

pub returns-then-not-has_left : goal.returns-then-not-has_left
unfolding plain_tested
returns-then-not-has_left c =
    let keyed : eqb (length c.args.key.now) 16 ≡ true =
    eq-eqb _ 16 c.if-key-ne16.false in
    let fits : leb c.args.bits (length c.args.buf.now * 8) ≡ true =
    sym c.if-not-bits_fit.ensures in
    too_many (call c.args.clean c.args.count c.args.bearer c.args.direction c.args.key.now c.args.bits c.args.buf.now) keyed fits c.reach_of-reach.ensures.words (sym c.if-not-has_left.ensures)

pub mask_by-requires : goal.mask_by-requires
mask_by-requires c =
    let fits : leb c.args.bits (length c.args.buf.now * 8) ≡ true =
    sym c.if-not-bits_fit.ensures in
    record { key_fits = c.if-key-ne16.false; enough = c.reach_of-reach.ensures.enough (leb-true _ _ fits) }

pub returns : goal.returns
unfolding plain_tested
returns c =
    let keyed : eqb (length c.args.key.now) 16 ≡ true =
    eq-eqb _ 16 c.if-key-ne16.false in
    let fits : leb c.args.bits (length c.args.buf.now * 8) ≡ true =
    sym c.if-not-bits_fit.ensures in
    let a = c.args in
    let reaches = c.reach_of-reach.ensures in
    let masked = c.mask_by.ensures ∙ mode-mask a.clean _ a.bits a.buf.now reaches.end in
    done (call c.args.clean c.args.count c.args.bearer c.args.direction c.args.key.now c.args.bits c.args.buf.now) keyed fits reaches.words (sym c.if-not-has_left.ensures)
    (λ i. record { number = accepted; count = reaches.words i; buffer = masked i })
