-- `start` is the ZUC-256 start with a row: each refusal by its test, and else start-up of the loaded cells.
use Rattle.zuc_loading.proofs.Loaded.{cells-256}
use Rattle.keystream.specs.Starts.{start₂₅₆}
use Rattle.keystream.proofs.Starting.{accepted, bad-iv, bad-key, cells-as}
use Rattle.keystream.proofs.zuc256.start.Goals as goal

pub returns-then-key-ne32 : goal.returns-then-key-ne32
unfolding start₂₅₆
returns-then-key-ne32 c = bad-key 32 23 c.args.key.now c.args.iv.now _ c.if-key-ne32.true

pub returns-then-iv-ne23 : goal.returns-then-iv-ne23
unfolding start₂₅₆
returns-then-iv-ne23 c = bad-iv 32 23 c.args.key.now c.args.iv.now _ c.if-key-ne32.false c.if-iv-ne23.true

pub load-requires : goal.load-requires
load-requires c =
    record { key_fits = c.if-key-ne32.false; iv_fits = c.if-iv-ne23.false }

pub started_from-requires : goal.started_from-requires
started_from-requires c = cells-as c.load.ensures (cells-256 _ _ _ c.requires (λ i. (c.shared_slice_known-1.given i).fits) (λ i. (c.shared_slice_known-2-1.given i).fits))

pub returns : goal.returns
unfolding start₂₅₆
returns c =
    let a = c.args in
    accepted 32 23 a.key.now a.iv.now _ c.if-key-ne32.false c.if-iv-ne23.false c.started_from.ensures c.load.ensures
