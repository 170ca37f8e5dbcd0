-- `new` is the ZUC-128 start: each refusal by its test, and else start-up of the loaded cells.
use Rattle.zuc_loading.proofs.Loaded.{cells-128}
use Rattle.keystream.specs.Starts.{start₁₂₈}
use Rattle.keystream.proofs.Starting.{accepted, bad-iv, bad-key, cells-as}
use Rattle.keystream.proofs.zuc128.new.Goals as goal

pub returns-then-key-ne16 : goal.returns-then-key-ne16
unfolding start₁₂₈
returns-then-key-ne16 c = bad-key 16 16 c.args.key.now c.args.iv.now _ c.if-key-ne16.true

pub returns-then-iv-ne16 : goal.returns-then-iv-ne16
unfolding start₁₂₈
returns-then-iv-ne16 c = bad-iv 16 16 c.args.key.now c.args.iv.now _ c.if-key-ne16.false c.if-iv-ne16.true

pub load-requires : goal.load-requires
load-requires c =
    record { key_fits = c.if-key-ne16.false; iv_fits = c.if-iv-ne16.false }

pub started_from-requires : goal.started_from-requires
started_from-requires c = cells-as c.load.ensures (cells-128 _ _ (λ i. (c.shared_slice_known-1.given i).fits) (λ i. (c.shared_slice_known-2-1.given i).fits))

pub returns : goal.returns
unfolding start₁₂₈
returns c =
    let a = c.args in
    accepted 16 16 a.key.now a.iv.now _ c.if-key-ne16.false c.if-iv-ne16.false c.started_from.ensures c.load.ensures
