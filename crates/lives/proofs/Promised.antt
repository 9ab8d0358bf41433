-- The promises over every life, proved.
use Rattle.std.proofs.Common.{List}
use Rattle.model.specs.Model.{Meaning, Lawful}
use Rattle.plan.specs.declared.limits.Limit.{Limit}
use Rattle.lives.specs.Promises.{Promises}
use Rattle.lives.proofs.Covering as Covering
use Rattle.lives.proofs.Rounds as Rounds
use Rattle.lives.proofs.Shelving as Shelving
use Rattle.lives.proofs.Open.{every_call_answers, only_the_street_is_free}
use Rattle.lives.proofs.Compare.{spells_compare}

pub promised : (m : Meaning) → Lawful m → (ls : List Limit) → Promises m ls
promised m law ls =
    record {
      cover = Covering.cover m law ls;
      cover_rule = Covering.cover_rule m law ls;
      rounds = Rounds.rounds m law ls;
      shelving = Shelving.shelving m law ls;
      shelf = Shelving.shelf_checked m law ls;
      telling = Shelving.telling_follows m ls;
      refusal = Shelving.refusal_changes_nothing m ls;
      answering = every_call_answers m ls;
      fixed = only_the_street_is_free m ls;
      comparison = spells_compare m law ls;
    }
