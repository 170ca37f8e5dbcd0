-- Any two outcomes that the promise of an exported function allows are equal, the number returned and all that was lent, at exit; and none of
-- the functions asks anything.
use base.Logic.{emp}
use borrow.Fn.Claims.{AllOf}
use borrow.Fn.Read.{ReadAt, no_know, r_last}
use borrow.Fn.World.{ArgsD, ResD, World, w₀}
use contract.Lifetimes.{Lfts}
use denote.Triple.Clauses.{AtExit}
use mathlib.Core.List.{List}
use mathlib.Core.Path.{◌≡◌, ◌∙◌, refl, sym}
use Prim.Native.Nat.{ℕ}
use Rattle.standard.proofs.Promise.{AsksNothing, Tight}
use Rattle.capi.proofs.generators.zuc128_start.Reads as zuc128-start
use Rattle.capi.proofs.generators.zuc256_start.Reads as zuc256-start
use Rattle.capi.proofs.generators.eea3_start.Reads as eea3-start
use Rattle.capi.proofs.generators.eea3_start_strict.Reads as eea3-start-strict
use Rattle.capi.proofs.generators.zuc_draw.Reads as zuc-draw
use Rattle.capi.proofs.generators.zuc_words.Reads as zuc-words
use Rattle.capi.proofs.generators.zuc_mask_crate.Reads as zuc-mask-crate
use Rattle.capi.proofs.generators.zuc_mask_clean.Reads as zuc-mask-clean
use Rattle.capi.proofs.tags.zuc128_tag_start.Reads as zuc128-tag-start
use Rattle.capi.proofs.tags.eia3_tag_start.Reads as eia3-tag-start
use Rattle.capi.proofs.tags.eia3_tag_start_strict.Reads as eia3-tag-start-strict
use Rattle.capi.proofs.tags.zuc256_tag_start.Reads as zuc256-tag-start
use Rattle.capi.proofs.tags.zuc128_tag_update.Reads as zuc128-tag-update
use Rattle.capi.proofs.tags.zuc256_tag_update.Reads as zuc256-tag-update
use Rattle.capi.proofs.tags.zuc128_tag_finish.Reads as zuc128-tag-finish
use Rattle.capi.proofs.tags.zuc256_tag_finish.Reads as zuc256-tag-finish
use Rattle.capi.proofs.tags.zuc128_tag.Reads as zuc128-tag
use Rattle.capi.proofs.tags.eia3_tag.Reads as eia3-tag
use Rattle.capi.proofs.tags.eia3_tag_strict.Reads as eia3-tag-strict
use Rattle.capi.proofs.tags.zuc256_tag.Reads as zuc256-tag
use Rattle.capi.proofs.eea3.eea3_mask_crate.Reads as eea3-mask-crate
use Rattle.capi.proofs.eea3.eea3_mask_clean.Reads as eea3-mask-clean
use Rattle.capi.proofs.eea3.eea3_mask_crate_strict.Reads as eea3-mask-crate-strict
use Rattle.capi.proofs.eea3.eea3_mask_clean_strict.Reads as eea3-mask-clean-strict
use Rattle.capi.proofs.frames.zuc_frame_read.Reads as zuc-frame-read
use Rattle.capi.proofs.frames.zuc_frame_write.Reads as zuc-frame-write
use Rattle.capi.specs.contracts.links.zuc_guard_accept as zuc-guard-accept
use Rattle.capi.specs.contracts.links.zuc_guard_rekey as zuc-guard-rekey
use Rattle.frame.specs.Outcome.{Written}
use Rattle.capi.specs.Frames.{ReadArray}
use Rattle.capi.specs.Generators.{DrawArray, MaskArray, StartArray, WordsArray}
use Rattle.capi.specs.Tags.{ClosingArray, TagArray}
use Rattle.guard.proofs.Tight.{tables-once}
use Rattle.guard.specs.declared.Link.{Link}
use Rattle.guard.specs.Outcome.{Guarded, table_of}
use Rattle.mac.specs.Calls.{Once}
use Rattle.mask.specs.Once.{Once as MaskOnce}

pub tight-zuc128-start : Tight {Seen = StartArray} zuc128-start.Post (λ κs r s. record { number = r; array = s.0.now })
tight-zuc128-start κs a r r' s s' p q = p ∙ sym q

pub asks-nothing-zuc128-start : AsksNothing zuc128-start.Pre
asks-nothing-zuc128-start κs a = tt

pub tight-zuc256-start : Tight {Seen = StartArray} zuc256-start.Post (λ κs r s. record { number = r; array = s.0.now })
tight-zuc256-start κs a r r' s s' p q = p ∙ sym q

pub asks-nothing-zuc256-start : AsksNothing zuc256-start.Pre
asks-nothing-zuc256-start κs a = tt

pub tight-eea3-start : Tight {Seen = StartArray} eea3-start.Post (λ κs r s. record { number = r; array = s.0.now })
tight-eea3-start κs a r r' s s' p q = p ∙ sym q

pub asks-nothing-eea3-start : AsksNothing eea3-start.Pre
asks-nothing-eea3-start κs a = tt

pub tight-eea3-start-strict : Tight {Seen = StartArray} eea3-start-strict.Post (λ κs r s. record { number = r; array = s.0.now })
tight-eea3-start-strict κs a r r' s s' p q = p ∙ sym q

pub asks-nothing-eea3-start-strict : AsksNothing eea3-start-strict.Pre
asks-nothing-eea3-start-strict κs a = tt

pub tight-zuc-draw : Tight {Seen = DrawArray} zuc-draw.Post (λ κs r s. record { number = r; word = s.1.0.now; array = s.0.now })
tight-zuc-draw κs a r r' s s' p q = p ∙ sym q

pub asks-nothing-zuc-draw : AsksNothing zuc-draw.Pre
asks-nothing-zuc-draw κs a = tt

pub tight-zuc-words : Tight {Seen = WordsArray} zuc-words.Post (λ κs r s. record { number = r; array = s.0.now; buffer = s.1.0.now })
tight-zuc-words κs a r r' s s' p q = p ∙ sym q

pub asks-nothing-zuc-words : AsksNothing zuc-words.Pre
asks-nothing-zuc-words κs a = tt

pub tight-zuc-mask-crate : Tight {Seen = MaskArray} zuc-mask-crate.Post (λ κs r s. record { number = r; count = s.1.1.1.0.now; array = s.0.now; buffer = s.1.0.now })
tight-zuc-mask-crate κs a r r' s s' p q = p ∙ sym q

pub asks-nothing-zuc-mask-crate : AsksNothing zuc-mask-crate.Pre
asks-nothing-zuc-mask-crate κs a = tt

pub tight-zuc-mask-clean : Tight {Seen = MaskArray} zuc-mask-clean.Post (λ κs r s. record { number = r; count = s.1.1.1.0.now; array = s.0.now; buffer = s.1.0.now })
tight-zuc-mask-clean κs a r r' s s' p q = p ∙ sym q

pub asks-nothing-zuc-mask-clean : AsksNothing zuc-mask-clean.Pre
asks-nothing-zuc-mask-clean κs a = tt

pub tight-zuc128-tag-start : Tight {Seen = TagArray} zuc128-tag-start.Post (λ κs r s. record { number = r; array = s.0.now })
tight-zuc128-tag-start κs a r r' s s' p q = p ∙ sym q

pub asks-nothing-zuc128-tag-start : AsksNothing zuc128-tag-start.Pre
asks-nothing-zuc128-tag-start κs a = tt

pub tight-eia3-tag-start : Tight {Seen = TagArray} eia3-tag-start.Post (λ κs r s. record { number = r; array = s.0.now })
tight-eia3-tag-start κs a r r' s s' p q = p ∙ sym q

pub asks-nothing-eia3-tag-start : AsksNothing eia3-tag-start.Pre
asks-nothing-eia3-tag-start κs a = tt

pub tight-eia3-tag-start-strict : Tight {Seen = TagArray} eia3-tag-start-strict.Post (λ κs r s. record { number = r; array = s.0.now })
tight-eia3-tag-start-strict κs a r r' s s' p q = p ∙ sym q

pub asks-nothing-eia3-tag-start-strict : AsksNothing eia3-tag-start-strict.Pre
asks-nothing-eia3-tag-start-strict κs a = tt

pub tight-zuc256-tag-start : Tight {Seen = TagArray} zuc256-tag-start.Post (λ κs r s. record { number = r; array = s.0.now })
tight-zuc256-tag-start κs a r r' s s' p q = p ∙ sym q

pub asks-nothing-zuc256-tag-start : AsksNothing zuc256-tag-start.Pre
asks-nothing-zuc256-tag-start κs a = tt

pub tight-zuc128-tag-update : Tight {Seen = TagArray} zuc128-tag-update.Post (λ κs r s. record { number = r; array = s.0.now })
tight-zuc128-tag-update κs a r r' s s' p q = p ∙ sym q

pub asks-nothing-zuc128-tag-update : AsksNothing zuc128-tag-update.Pre
asks-nothing-zuc128-tag-update κs a = tt

pub tight-zuc256-tag-update : Tight {Seen = TagArray} zuc256-tag-update.Post (λ κs r s. record { number = r; array = s.0.now })
tight-zuc256-tag-update κs a r r' s s' p q = p ∙ sym q

pub asks-nothing-zuc256-tag-update : AsksNothing zuc256-tag-update.Pre
asks-nothing-zuc256-tag-update κs a = tt

pub tight-zuc128-tag-finish : Tight {Seen = ClosingArray} zuc128-tag-finish.Post (λ κs r s. record { number = r; tag = s.1.1.1.0.now; array = s.0.now })
tight-zuc128-tag-finish κs a r r' s s' p q = p ∙ sym q

pub asks-nothing-zuc128-tag-finish : AsksNothing zuc128-tag-finish.Pre
asks-nothing-zuc128-tag-finish κs a = tt

pub tight-zuc256-tag-finish : Tight {Seen = ClosingArray} zuc256-tag-finish.Post (λ κs r s. record { number = r; tag = s.1.1.1.0.now; array = s.0.now })
tight-zuc256-tag-finish κs a r r' s s' p q = p ∙ sym q

pub asks-nothing-zuc256-tag-finish : AsksNothing zuc256-tag-finish.Pre
asks-nothing-zuc256-tag-finish κs a = tt

pub tight-zuc128-tag : Tight {Seen = Once (List ℕ)} zuc128-tag.Post (λ κs r s. record { number = r; tag = s.1.1.1.1.0.now })
tight-zuc128-tag κs a r r' s s' p q = p ∙ sym q

pub asks-nothing-zuc128-tag : AsksNothing zuc128-tag.Pre
asks-nothing-zuc128-tag κs a = tt

pub tight-eia3-tag : Tight {Seen = Once (List ℕ)} eia3-tag.Post (λ κs r s. record { number = r; tag = s.1.1.1.1.1.1.0.now })
tight-eia3-tag κs a r r' s s' p q = p ∙ sym q

pub asks-nothing-eia3-tag : AsksNothing eia3-tag.Pre
asks-nothing-eia3-tag κs a = tt

pub tight-eia3-tag-strict : Tight {Seen = Once (List ℕ)} eia3-tag-strict.Post (λ κs r s. record { number = r; tag = s.1.1.1.1.1.1.0.now })
tight-eia3-tag-strict κs a r r' s s' p q = p ∙ sym q

pub asks-nothing-eia3-tag-strict : AsksNothing eia3-tag-strict.Pre
asks-nothing-eia3-tag-strict κs a = tt

pub tight-zuc256-tag : Tight {Seen = Once (List ℕ)} zuc256-tag.Post (λ κs r s. record { number = r; tag = s.1.1.1.1.1.0.now })
tight-zuc256-tag κs a r r' s s' p q = p ∙ sym q

pub asks-nothing-zuc256-tag : AsksNothing zuc256-tag.Pre
asks-nothing-zuc256-tag κs a = tt

-- EEA3 in one call: the number, the count and the buffer
pub tight-eea3-mask-crate : Tight {Seen = MaskOnce} eea3-mask-crate.Post (λ κs r s. record { number = r; count = s.1.1.1.1.1.1.0.now; buffer = s.1.1.1.1.0.now })
tight-eea3-mask-crate κs a r r' s s' p q = p ∙ sym q

pub asks-nothing-eea3-mask-crate : AsksNothing eea3-mask-crate.Pre
asks-nothing-eea3-mask-crate κs a = tt

pub tight-eea3-mask-clean : Tight {Seen = MaskOnce} eea3-mask-clean.Post (λ κs r s. record { number = r; count = s.1.1.1.1.1.1.0.now; buffer = s.1.1.1.1.0.now })
tight-eea3-mask-clean κs a r r' s s' p q = p ∙ sym q

pub asks-nothing-eea3-mask-clean : AsksNothing eea3-mask-clean.Pre
asks-nothing-eea3-mask-clean κs a = tt

pub tight-eea3-mask-crate-strict : Tight {Seen = MaskOnce} eea3-mask-crate-strict.Post (λ κs r s. record { number = r; count = s.1.1.1.1.1.1.0.now; buffer = s.1.1.1.1.0.now })
tight-eea3-mask-crate-strict κs a r r' s s' p q = p ∙ sym q

pub asks-nothing-eea3-mask-crate-strict : AsksNothing eea3-mask-crate-strict.Pre
asks-nothing-eea3-mask-crate-strict κs a = tt

pub tight-eea3-mask-clean-strict : Tight {Seen = MaskOnce} eea3-mask-clean-strict.Post (λ κs r s. record { number = r; count = s.1.1.1.1.1.1.0.now; buffer = s.1.1.1.1.0.now })
tight-eea3-mask-clean-strict κs a r r' s s' p q = p ∙ sym q

pub asks-nothing-eea3-mask-clean-strict : AsksNothing eea3-mask-clean-strict.Pre
asks-nothing-eea3-mask-clean-strict κs a = tt

-- the guard: the number returned, and the table
links-tight : (r r' : ℕ) (ys ys' : List Link) → ◌≡◌ {A = Guarded} (record { number = r; table = table_of ys }) (record { number = r'; table = table_of ys' })
    → ◌≡◌ {A = ℕ × List Link} (r, ys) (r', ys')
links-tight r r' ys ys' e = λ i. ((e i).number, tables-once ys ys' (λ j. (e j).table) i)

-- a function walked by hand has no `Reads`: what it promises and asks is read here, by the rules that read every other one
abbrev pub guard-accept-read : (κs : Lfts 1) (a : ArgsD zuc-guard-accept.signature κs) (r : ResD zuc-guard-accept.signature κs) (s : AtExit zuc-guard-accept.ended κs) (w : World)
    → ReadAt w (λ w. emp w.𝓤) no_know ((zuc-guard-accept.clauses w.𝓛 w.𝓜.mem w.𝓡.run κs a).ensures tt r s)
guard-accept-read κs a r s w = r_last _

abbrev pub guard-accept-post : (κs : Lfts 1) (a : ArgsD zuc-guard-accept.signature κs) → ResD zuc-guard-accept.signature κs → AtExit zuc-guard-accept.ended κs → Type 0
guard-accept-post κs a r s = AllOf (guard-accept-read κs a r s w₀).tells

pub tight-zuc-guard-accept : Tight {Seen = ℕ × List Link} guard-accept-post (λ κs r s. (r, s.0.now))
tight-zuc-guard-accept κs a r r' s s' p q = links-tight r r' s.0.now s'.0.now (p ∙ sym q)

pub asks-nothing-zuc-guard-accept : (κs : Lfts 1) (a : ArgsD zuc-guard-accept.signature κs) (w : World)
    → (zuc-guard-accept.clauses w.𝓛 w.𝓜.mem w.𝓡.run κs a).requires tt ≡ emp w.𝓤
asks-nothing-zuc-guard-accept κs a w = refl

abbrev pub guard-rekey-read : (κs : Lfts 1) (a : ArgsD zuc-guard-rekey.signature κs) (r : ResD zuc-guard-rekey.signature κs) (s : AtExit zuc-guard-rekey.ended κs) (w : World)
    → ReadAt w (λ w. emp w.𝓤) no_know ((zuc-guard-rekey.clauses w.𝓛 w.𝓜.mem w.𝓡.run κs a).ensures tt r s)
guard-rekey-read κs a r s w = r_last _

abbrev pub guard-rekey-post : (κs : Lfts 1) (a : ArgsD zuc-guard-rekey.signature κs) → ResD zuc-guard-rekey.signature κs → AtExit zuc-guard-rekey.ended κs → Type 0
guard-rekey-post κs a r s = AllOf (guard-rekey-read κs a r s w₀).tells

pub tight-zuc-guard-rekey : Tight {Seen = ℕ × List Link} guard-rekey-post (λ κs r s. (r, s.0.now))
tight-zuc-guard-rekey κs a r r' s s' p q = links-tight r r' s.0.now s'.0.now (p ∙ sym q)

pub asks-nothing-zuc-guard-rekey : (κs : Lfts 1) (a : ArgsD zuc-guard-rekey.signature κs) (w : World)
    → (zuc-guard-rekey.clauses w.𝓛 w.𝓜.mem w.𝓡.run κs a).requires tt ≡ emp w.𝓤
asks-nothing-zuc-guard-rekey κs a w = refl

-- frames: the number, the fields and every byte of the frame
pub tight-zuc-frame-write : Tight {Seen = Written} zuc-frame-write.Post (λ κs r s. record { number = r; frame = s.1.1.1.1.1.1.0.now })
tight-zuc-frame-write κs a r r' s s' p q = p ∙ sym q

pub asks-nothing-zuc-frame-write : AsksNothing zuc-frame-write.Pre
asks-nothing-zuc-frame-write κs a = tt

pub tight-zuc-frame-read : Tight {Seen = ReadArray} zuc-frame-read.Post (λ κs r s. record { number = r; fields = s.1.1.1.0.now; frame = s.1.1.0.now })
tight-zuc-frame-read κs a r r' s s' p q = p ∙ sym q

pub asks-nothing-zuc-frame-read : AsksNothing zuc-frame-read.Pre
asks-nothing-zuc-frame-read κs a = tt
