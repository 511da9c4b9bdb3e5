use Rattle.std.proofs.Common.{refl}
use Rattle.gixp_sidebands.proofs.ContentLemmas.{fills_either}
use Rattle.gixp_sidebands.proofs.sidebands.WithSidebandsBufRead.fill_buf.Goals as goal

pub returns-in-Ok : goal.returns-in-Ok
returns-in-Ok g c =
    let h = fills_either _ _ c.in-Ok.field-0 c.in-Ok.ensures.fills in (
      (refl, λ _. tt, (tt, tt)),
      record {
        front = tt;
        end = tt;
        after_borrow = tt;
        shown =
            (c.fill.new.self, record { fills = (c.rest.ensures, h); reported = c.in-Ok.ensures.reported; interrupt = c.in-Ok.ensures.interrupt });
      },
    )

pub returns-in-Err : goal.returns-in-Err
returns-in-Err g c = (
  (refl, λ _. tt, (tt, tt)),
  record {
    front = tt;
    end = tt;
    after_borrow = tt;
    shown = (
      c.fill.new.self,
      record { fills = c.in-Err.ensures.fills; reported = c.in-Err.ensures.reported; interrupt = c.in-Err.ensures.interrupt },
    );
  },
)
