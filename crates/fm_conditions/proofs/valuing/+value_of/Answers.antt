use Rattle.std.proofs.Common.{rules, ◌*◌, ◌<◌, length, refl, sym, ◌∙◌, subst}
use Rattle.std.proofs.lemmas.Bool.{false≢true}
use Rattle.fm_mat.specs.Matrices.{MatrixValue}
use Rattle.fm_pres.specs.Tables.{parts_in, part_at}
use Rattle.fm_conditions.specs.Meanings.{operand_part}
use Rattle.fm_conditions.proofs.Formed.{blocks_room, twist_passes, flip_passes, left_passes, right_passes, first_passes, second_passes, value_moved, bound_moved}
use Rattle.fm_conditions.proofs.valuing.+value_of.Goals as goal

pub returns-in_err-k-in-Blocks-clause-exponent : goal.returns-in_err-k-in-Blocks-clause-exponent
returns-in_err-k-in-Blocks-clause-exponent t c = λ why.
    let h = rw c.in-Blocks.is at c.requires.formable in
    absurd (false≢true (sym (c.in_err-k-in-Blocks.ensures.exponent (search rules)) ∙ h))

pub blocks-requires-clause-rows : goal.blocks-requires-clause-rows
blocks-requires-clause-rows t c =
    let r = c.args.table.now.ring in
    let P = part_at (parts_in c.args.table.now) c.in-Blocks.k in
    let h = rw c.in-Blocks.is at c.requires.fits in
    subst (λ (x : MatrixValue). x.rows * x.rows < 4294967296) (sym c.deref.ensures) (blocks_room r P c.in_ok-k-in-Blocks.k.value c.in_ok-k-in-Blocks.ensures.value h).0

pub blocks-requires-clause-columns : goal.blocks-requires-clause-columns
blocks-requires-clause-columns t c =
    let r = c.args.table.now.ring in
    let P = part_at (parts_in c.args.table.now) c.in-Blocks.k in
    let h = rw c.in-Blocks.is at c.requires.fits in
    subst (λ (x : MatrixValue). x.rows * length x.columns < 4294967296) (sym c.deref.ensures) (blocks_room r P c.in_ok-k-in-Blocks.k.value c.in_ok-k-in-Blocks.ensures.value h).1

pub returns-in_err-a-in-Twist-clause-exponent : goal.returns-in_err-a-in-Twist-clause-exponent
returns-in_err-a-in-Twist-clause-exponent t c = λ why.
    let T = c.args.table.now in
    let k = c.in-Twist in
    rw k.is (twist_passes T.ring (operand_part T.ring (parts_in T) k.a.value) k.e
    (bound_moved T T c.deref-in-Twist.result.now k.a.value refl c.deref-in-Twist.ensures (c.in_err-a-in-Twist.ensures.exponent (search rules))))

pub returns-in_err-a-in-Flip-clause-exponent : goal.returns-in_err-a-in-Flip-clause-exponent
returns-in_err-a-in-Flip-clause-exponent t c = λ why.
    let T = c.args.table.now in
    let k = c.in-Flip in
    rw k.is (flip_passes T.ring (operand_part T.ring (parts_in T) k.a.value)
    (bound_moved T T c.deref-in-Flip.result.now k.a.value refl c.deref-in-Flip.ensures (c.in_err-a-in-Flip.ensures.exponent (search rules))))

pub returns-in_err-a-in-Beside-clause-exponent : goal.returns-in_err-a-in-Beside-clause-exponent
returns-in_err-a-in-Beside-clause-exponent t c = λ why.
    let T = c.args.table.now in
    let k = c.in-Beside in
    rw k.is (left_passes T.ring (operand_part T.ring (parts_in T) k.a.value) (operand_part T.ring (parts_in T) k.b.value)
    (bound_moved T T c.deref-in-Beside.result.now k.a.value refl c.deref-in-Beside.ensures (c.in_err-a-in-Beside.ensures.exponent (search rules))))

pub returns-in_err-b-in-Beside-clause-exponent : goal.returns-in_err-b-in-Beside-clause-exponent
returns-in_err-b-in-Beside-clause-exponent t c = λ why.
    let T = c.args.table.now in
    let k = c.in-Beside in
    rw k.is (right_passes T.ring (operand_part T.ring (parts_in T) k.a.value) (operand_part T.ring (parts_in T) k.b.value)
    (bound_moved T c.value_of-in-Beside.new.table c.deref-in-Beside-2.result.now k.b.value c.in_ok-a-in-Beside.ensures.unchanged c.deref-in-Beside-2.ensures
    (c.in_err-b-in-Beside.ensures.exponent (search rules))))

pub returns-in_err-a-in-Times-clause-exponent : goal.returns-in_err-a-in-Times-clause-exponent
returns-in_err-a-in-Times-clause-exponent t c = λ why.
    let T = c.args.table.now in
    let k = c.in-Times in
    rw k.is (first_passes T.ring (operand_part T.ring (parts_in T) k.a.value) (operand_part T.ring (parts_in T) k.b.value)
    (bound_moved T T c.deref-in-Times.result.now k.a.value refl c.deref-in-Times.ensures (c.in_err-a-in-Times.ensures.exponent (search rules))))

pub returns-in_err-b-in-Times-clause-exponent : goal.returns-in_err-b-in-Times-clause-exponent
returns-in_err-b-in-Times-clause-exponent t c = λ why.
    let T = c.args.table.now in
    let k = c.in-Times in
    rw k.is (second_passes T.ring (operand_part T.ring (parts_in T) k.a.value) (operand_part T.ring (parts_in T) k.b.value)
    (bound_moved T c.value_of-in-Times.new.table c.deref-in-Times-2.result.now k.b.value c.in_ok-a-in-Times.ensures.unchanged c.deref-in-Times-2.ensures
    (c.in_err-b-in-Times.ensures.exponent (search rules))))

pub returns-in_ok-b-in-Beside-clause-value : goal.returns-in_ok-b-in-Beside-clause-value
returns-in_ok-b-in-Beside-clause-value t c =
    let T = c.args.table.now in
    let k = c.in-Beside in
    rw k.is (c.joined.ensures.value T.ring (operand_part T.ring (parts_in T) k.a.value) (operand_part T.ring (parts_in T) k.b.value)
    (value_moved T T c.deref-in-Beside.result.now k.a.value refl c.deref-in-Beside.ensures c.in_ok-a-in-Beside.a.value c.deref-in-Beside-3.result.now c.deref-in-Beside-3.ensures c.in_ok-a-in-Beside.ensures.value)
    (value_moved T c.value_of-in-Beside.new.table c.deref-in-Beside-2.result.now k.b.value c.in_ok-a-in-Beside.ensures.unchanged c.deref-in-Beside-2.ensures c.in_ok-b-in-Beside.b.value
    c.deref-in-Beside-4.result.now c.deref-in-Beside-4.ensures c.in_ok-b-in-Beside.ensures.value))

pub returns-in_ok-b-in-Times-clause-value : goal.returns-in_ok-b-in-Times-clause-value
returns-in_ok-b-in-Times-clause-value t c =
    let T = c.args.table.now in
    let k = c.in-Times in
    rw k.is (c.multiplied.ensures.value T.ring (operand_part T.ring (parts_in T) k.a.value) (operand_part T.ring (parts_in T) k.b.value)
    (value_moved T T c.deref-in-Times.result.now k.a.value refl c.deref-in-Times.ensures c.in_ok-a-in-Times.a.value c.deref-in-Times-3.result.now c.deref-in-Times-3.ensures c.in_ok-a-in-Times.ensures.value)
    (value_moved T c.value_of-in-Times.new.table c.deref-in-Times-2.result.now k.b.value c.in_ok-a-in-Times.ensures.unchanged c.deref-in-Times-2.ensures c.in_ok-b-in-Times.b.value
    c.deref-in-Times-4.result.now c.deref-in-Times-4.ensures c.in_ok-b-in-Times.ensures.value))

pub returns-in_ok-b-in-Times-clause-exponent : goal.returns-in_ok-b-in-Times-clause-exponent
returns-in_ok-b-in-Times-clause-exponent t c = λ why.
    let T = c.args.table.now in
    let k = c.in-Times in
    rw k.is (c.multiplied.ensures.exponent T.ring (operand_part T.ring (parts_in T) k.a.value) (operand_part T.ring (parts_in T) k.b.value)
    (value_moved T T c.deref-in-Times.result.now k.a.value refl c.deref-in-Times.ensures c.in_ok-a-in-Times.a.value c.deref-in-Times-3.result.now c.deref-in-Times-3.ensures c.in_ok-a-in-Times.ensures.value)
    (value_moved T c.value_of-in-Times.new.table c.deref-in-Times-2.result.now k.b.value c.in_ok-a-in-Times.ensures.unchanged c.deref-in-Times-2.ensures c.in_ok-b-in-Times.b.value
    c.deref-in-Times-4.result.now c.deref-in-Times-4.ensures c.in_ok-b-in-Times.ensures.value) why)
