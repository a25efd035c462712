use native.Mathlib.Omega.{arith}
use Rattle.image_sound.proofs.FitLaws.{fits_no_channel, fits_no_unit, fits_placed}
use Rattle.image_sound.proofs.fits.file_fits.Goals as goal

pub returns-then-channel-ge-CHANNELS : goal.returns-then-channel-ge-CHANNELS
returns-then-channel-ge-CHANNELS c = let a = c.args in fits_no_channel a.b.now a.at _ _ c.wide-channel.ensures c.wide-unit.ensures (omega arith)

pub returns-then-unit-ge-UNITS : goal.returns-then-unit-ge-UNITS
returns-then-unit-ge-UNITS c = let a = c.args in fits_no_unit a.b.now a.at _ _ c.wide-channel.ensures c.wide-unit.ensures (omega arith) (omega arith)

pub returns : goal.returns
returns c = let a = c.args in fits_placed a.b.now a.at _ _ c.wide-channel.ensures c.wide-unit.ensures (omega arith) (omega arith) c.requires.2 _ _ c.unit_place-to.ensures c.ready_by-ready.ensures
