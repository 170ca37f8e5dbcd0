-- `tag_array_of`: the generator's words, and behind them the key pair and the tag, written out, and the rest.
use lib.Dec.{lit<}
use lib.ListN.{length}
use mathlib.Core.List.{[], ◌∷◌, ◌++◌}
use mathlib.Core.Path.{◌≡◌, ◌∙◌, ap, refl}
use mir.Syntax.{w8, w32}
use mir.Val.{Fits}
use Prim.Native.Nat.{ℕ, ◌^◌, ◌<◌}
use Rattle.capi_arrays.proofs.Packing.{Fit, all_listed, array-stored, turned-fits}
use Rattle.capi_arrays.specs.Arrays.{regrouped, stored_in, tag_array_of}
use Rattle.mac_registers.specs.Stored.{stored_of}
use Rattle.standard.proofs.Made.{laid}
use Rattle.standard.specs.Bits.{M}
use Rattle.standard.specs.Notation.{◌⟨◌⟩, listed}
use Rattle.zuc.proofs.Turning.{length_from}
use Rattle.zuc.specs.Reading.{cells_from}
use borrow.Author.Rules.{rules}
use Rattle.mac_registers.specs.declared.TagOn.{TagOn}
use Rattle.zuc.specs.declared.Zuc.{Zuc}
use Rattle.capi_arrays.proofs.tag_array_of.Goals as goal

-- what the struct's types keep of its places, its words and its bytes
fit : (s : TagOn Zuc) → length s.g.s ≡ 16 → length s.key ≡ 4 → length s.tag ≡ 2 → length s.rem ≡ 16
    → ((k : ℕ) → Fits w32 (s.g.s ⟨ k ⟩)) → ((k : ℕ) → Fits w8 (s.rem ⟨ k ⟩)) → s.g.r1 < 2 ^ 32 → s.g.r2 < 2 ^ 32 → Fit (stored_of s)
unfolding cells_from
fit s places keys tags rems cell_fits byte_fits r1 r2 =
    record {
      cells-full = length_from s.g.start s.g.s ∙ places;
      cells = λ k. turned-fits (λ (x : ℕ). x < 2 ^ 32) (lit< tt) s.g.start s.g.s (λ j. (cell_fits j).fits) k;
      R₁ = r1;
      R₂ = r2;
      key-full = keys;
      tag-full = tags;
      rem-full = rems;
      rem = λ k. (byte_fits k).fits;
    }

pub returns : goal.returns
unfolding tag_array_of listed regrouped M
returns c =
    let s = c.args.s in
    let fits = fit c.args.s (search rules) (search rules) (search rules) (search rules) (λ k. search rules) (λ k. search rules) (search rules) (search rules) in
    let full : length c.copy_from_slice.new.self ≡ 9 = search rules in
    let is : _ ≡ tag_array_of (record { held = stored_of s; count = c.args.count }) =
    laid 9 12 _ _ _ full refl
    ∙ λ i.
    (c.copy_from_slice.ensures.after ∙ c.words_of.ensures) i
    ++ ((c.copy_from_slice-2.ensures.after
    ∙ λ j.
    s.g.start
    ∷ c.args.count
    ∷ all_listed s.key 4 fits.key-full j
    ++ (all_listed s.tag 2 fits.tag-full j ++ (c.wide_at.ensures j ∷ c.wide_at-2.ensures j ∷ s.cnt ∷ s.width ∷ []))) i) in
    record { is = is; back = ap stored_in is ∙ array-stored (record { held = stored_of s; count = c.args.count }) fits }
