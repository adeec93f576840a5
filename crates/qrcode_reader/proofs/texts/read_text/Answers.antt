use Rattle.std.proofs.Common.{◌≡◌, ap}
use Rattle.std.proofs.lemmas.Result.{err_from_is_err_and, IfErr-weaker}
use Rattle.std.specs.Prelude.{chars, string_bytes}
use Rattle.qrcode_reader.specs.Readings.{IsTextCause, IsTextReading}
use Rattle.qrcode_reader.specs.declared.refusals.Unread.TheVariants.{OutOfMemory}
use Rattle.qrcode_reader.specs.declared.refusals.UnreadText.TheVariants.{NoBits}
use Rattle.qrcode_reader.proofs.ShownTexts.{text_only_memory, text_reading, unshown}
use Rattle.qrcode_reader.proofs.texts.read_text.Goals as goal
use Rattle.qrcode_reader.proofs.texts.read_text.Goals.{In_ok-text}

-- ---- no bits
pub returns-in_err-read-clause-causes : goal.returns-in_err-read-clause-causes
returns-in_err-read-clause-causes c =
    let p = err_from_is_err_and c.from_residual.result c.from_residual.ensures.1 in
    rw (p.1, p.2) c.in_err-read.ensures.causes

pub returns-in_err-read-clause-accepts : goal.returns-in_err-read-clause-accepts
returns-in_err-read-clause-accepts c =
    let p = err_from_is_err_and c.from_residual.result c.from_residual.ensures.1 in
    λ text q. rw (p.1, p.2) (ap NoBits (c.in_err-read.ensures.accepts q.version q.level q.bits q.read))

pub returns-in_err-read-clause-gives_back : goal.returns-in_err-read-clause-gives_back
returns-in_err-read-clause-gives_back c =
    let p = err_from_is_err_and c.from_residual.result c.from_residual.ensures.1 in
    λ v l text symbol shown damaged.
    let q = (shown.shown c.args.modules.now damaged).found in
    rw (p.1, p.2) (ap NoBits (c.in_err-read.ensures.accepts q.version q.level q.bits q.read), tt)

-- ---- bits that show no text
pub returns-in_err-text-clause-causes : goal.returns-in_err-text-clause-causes
returns-in_err-text-clause-causes c =
    let r = c.in_ok-read.read in
    let p = err_from_is_err_and c.from_residual-in_err-text.result c.from_residual-in_err-text.ensures.1 in
    rw (p.1, p.2) (unshown c.args.modules.now r.version r.ec_level r.bits.items c.deref.result.now _ c.in_ok-read.ensures.value.only c.deref.ensures.value c.in_err-text.ensures.causes)

pub returns-in_err-text-clause-accepts : goal.returns-in_err-text-clause-accepts
returns-in_err-text-clause-accepts c =
    let s = c.args.modules.now in
    λ text q. IfErr-weaker c.from_residual-in_err-text.result (IsTextCause s) (λ e. e ≡ NoBits OutOfMemory) (λ e cause. text_only_memory s e cause text q) (returns-in_err-text-clause-causes c)

pub returns-in_err-text-clause-gives_back : goal.returns-in_err-text-clause-gives_back
returns-in_err-text-clause-gives_back c =
    let p = err_from_is_err_and c.from_residual-in_err-text.result c.from_residual-in_err-text.ensures.1 in
    λ v l text symbol shown damaged. (returns-in_err-text-clause-accepts c text (shown.shown c.args.modules.now damaged).found, rw p.1 tt)

-- ---- a reading
read_as : (c : In_ok-text) → (let r = c.in_ok-read.read in IsTextReading c.args.modules.now r.version r.ec_level r.mask (chars (string_bytes c.in_ok-text.text)) r.wrong.items)
read_as c =
    let r = c.in_ok-read.read in
    text_reading c.args.modules.now r.version r.ec_level r.mask r.bits.items c.deref.result.now _ r.wrong.items c.in_ok-read.ensures.value c.deref.ensures.value c.in_ok-text.ensures.value

pub returns-clause-value : goal.returns-clause-value
returns-clause-value c = read_as (goal.at.returns-clause-value c).In_ok-text

pub returns-clause-gives_back : goal.returns-clause-gives_back
returns-clause-gives_back c =
    let is = read_as (goal.at.returns-clause-gives_back c).In_ok-text in
    λ v l text symbol shown damaged. (tt, (shown.shown c.args.modules.now damaged).only _ is.only.found)
