use Rattle.std.proofs.Common.{◌∙◌, refl}
use Rattle.sh_cli.proofs.Begins.{begun}
use Rattle.sh_cli.proofs.vector_sum.guess.Goals as goal

pub returns-in_err-devices : goal.returns-in_err-devices
returns-in_err-devices c = λ extent devices is.
    let b = begun c.args.text.now extent devices is in
    absurd (c.in_err-devices.ensures devices b.middle b.small_devices b.first)

pub returns-in_err-extent : goal.returns-in_err-extent
returns-in_err-extent c = λ extent devices is.
    let b = begun c.args.text.now extent devices is in
    let parts = c.in_ok-devices.ensures devices b.middle b.small_devices b.first in
    absurd (c.in_err-extent.ensures extent b.rest b.small_extent (parts.1 ∙ b.second))

pub returns : goal.returns
returns c = λ extent devices is.
    let b = begun c.args.text.now extent devices is in
    let parts = c.in_ok-devices.ensures devices b.middle b.small_devices b.first in
    let more = c.in_ok-extent.ensures extent b.rest b.small_extent (parts.1 ∙ b.second) in
    rw (more.0, parts.0) refl
