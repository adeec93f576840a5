use Rattle.std.proofs.Common.{◌≡◌}
use Rattle.std.proofs.lemmas.Result.{err_from_is_err_and, IfErr-weaker}
use Rattle.qrcode_reader.specs.Readings.{IsUnreadCause, IsReading}
use Rattle.qrcode_reader.specs.declared.refusals.Unread.TheVariants.{OutOfMemory}
use Rattle.qrcode_reader.proofs.Refused.{bytes_only_memory, reading, unspelled, given_back}
use Rattle.qrcode_reader.proofs.reading.read.Goals as goal
use Rattle.qrcode_reader.proofs.reading.read.Goals.{In_ok-data}

-- ---- no bits
pub returns-in_err-read-clause-accepts : goal.returns-in_err-read-clause-accepts
returns-in_err-read-clause-accepts c =
    let p = err_from_is_err_and c.from_residual.result c.from_residual.ensures.1 in
    λ bytes q. rw (p.1, p.2) (c.in_err-read.ensures.accepts q.version q.level q.bits q.read)

pub returns-in_err-read-clause-gives_back : goal.returns-in_err-read-clause-gives_back
returns-in_err-read-clause-gives_back c =
    let p = err_from_is_err_and c.from_residual.result c.from_residual.ensures.1 in
    λ v l bits bytes symbol encodes damaged.
    let q = (encodes.read c.args.modules.now damaged).found in
    rw (p.1, p.2) (c.in_err-read.ensures.accepts q.version q.level q.bits q.read, tt)

-- ---- bits that decode to no bytes
pub returns-in_err-data-clause-causes : goal.returns-in_err-data-clause-causes
returns-in_err-data-clause-causes c =
    let r = c.in_ok-read.read in
    let p = err_from_is_err_and c.from_residual-in_err-data.result c.from_residual-in_err-data.ensures.1 in
    rw (p.1, p.2) (unspelled c.args.modules.now r.version r.ec_level r.bits.items c.deref.result.now _ c.in_ok-read.ensures.value.only c.deref.ensures.value c.in_err-data.ensures.causes)

pub returns-in_err-data-clause-accepts : goal.returns-in_err-data-clause-accepts
returns-in_err-data-clause-accepts c =
    let s = c.args.modules.now in
    λ bytes q. IfErr-weaker c.from_residual-in_err-data.result (IsUnreadCause s) (λ e. e ≡ OutOfMemory) (λ e cause. bytes_only_memory s e cause bytes q) (returns-in_err-data-clause-causes c)

pub returns-in_err-data-clause-gives_back : goal.returns-in_err-data-clause-gives_back
returns-in_err-data-clause-gives_back c =
    let p = err_from_is_err_and c.from_residual-in_err-data.result c.from_residual-in_err-data.ensures.1 in
    λ v l bits bytes symbol encodes damaged. (returns-in_err-data-clause-accepts c bytes (encodes.read c.args.modules.now damaged).found, rw p.1 tt)

-- ---- a reading
read_as : (c : In_ok-data) → (let r = c.in_ok-read.read in IsReading c.args.modules.now r.version r.ec_level r.mask c.in_ok-data.data.items r.wrong.items)
read_as c =
    let r = c.in_ok-read.read in
    reading c.args.modules.now r.version r.ec_level r.mask r.bits.items c.deref.result.now c.in_ok-data.data.items r.wrong.items c.in_ok-read.ensures.value c.deref.ensures.value c.in_ok-data.ensures.value

pub returns-clause-value : goal.returns-clause-value
returns-clause-value c = read_as (goal.at.returns-clause-value c).In_ok-data

pub returns-clause-gives_back : goal.returns-clause-gives_back
returns-clause-gives_back c =
    let r = c.in_ok-read.read in
    let is = read_as (goal.at.returns-clause-gives_back c).In_ok-data in
    λ v l bits bytes symbol encodes damaged. (tt, given_back c.args.modules.now r.version r.ec_level r.mask c.in_ok-data.data.items r.wrong.items is v l bits bytes symbol encodes damaged)
