-- `last_tag` meets its contract: the closing block goes the way of the others.
use mathlib.Core.List.{List, ◌∷◌, ◌++◌}
use mathlib.Core.Path.{◌≡◌, ap, ◌∙◌}
use Prim.Native.Nat.{ℕ, suc, ◌+◌, ◌*◌, ◌-◌}
use native.Mathlib.Omega.{arith}
use lib.ListN.{drop, length, replicate}
use borrow.Author.Rules.{rules}
use Rattle.standard.specs.Bits.{M, bit_of}
use Rattle.standard.specs.Integrity.{T}
use Rattle.standard.specs.Notation.{◌⊕◌}
use Rattle.mac_registers.specs.Stored.{tag_words, tagging_of}
use Rattle.mac_registers.specs.Inner.{last_byte}
use Rattle.mac_registers.specs.InnerOpen.{stored_at}
use Rattle.mac_registers.specs.Tagging.{last_tag}
use Rattle.mac_registers.proofs.Packed.{width-most}
use Rattle.mac_blocks.proofs.Moves.{cnt-is}
use Rattle.mac_tagging.proofs.Bytes.{rem-next}
use Rattle.mac_tagging.proofs.Last.{last_tag-is}
use Rattle.mac_tagging.proofs.closing.last_tag.Goals as goal

pub tag_with-requires : goal.tag_with-requires
tag_with-requires c =
    let block-length : length c.last_block-block.result ≡ 16 =
    search rules in
    let v = c.requires.width_fits.0 in
    record { width_fits = v; block_fits = omega (arith, block-length, width-most v) }

pub returns : goal.returns
unfolding tagging_of
returns c =
    let a = c.args in
    let o = a.o in
    let t : ℕ = o.width * 8 in
    let rest : List ℕ = drop a.q a.tail.now in
    let n : 16 - suc o.cnt ≡ 15 - o.cnt = omega arith in
    λ run h.
    let st = tagging_of (stored_at run o) in
    let cnt : length st.waiting ≡ o.cnt = cnt-is (stored_at run o) h in
    c.tag_with.ensures
    ∙ ap (λ (m : List ℕ). tag_words o.width (st.tag ⊕ T t (bit_of (t + t) st.key) 0 (M m) t))
    (c.last_block-block.ensures ∙ rem-next (stored_at run o) h (last_byte rest a.r) ∙ ap (λ (k : ℕ). st.waiting ++ (last_byte rest a.r ∷ replicate k 0)) n)
    ∙ ap (tag_words o.width)
    (last_tag-is t st rest a.r (15 - o.cnt) c.requires.bits_fit.0 (omega (arith, h.good.short, c.requires.bits_fit.0))
    ∙ ap (λ (k : ℕ). last_tag t st rest (k * 8 + a.r)) cnt)
